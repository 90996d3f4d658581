-- Stations of machine types, as every station is that code holds: two tables of 64 places, and
-- numbers of their widths.
use Rattle.std.specs.Prelude.{◌≡◌, ℕ, ◌^◌, ◌<◌, length}
use Rattle.station.specs.declared.Turnout.{Turnout}
use Rattle.station.specs.declared.Route.{Route}
use Rattle.station.specs.declared.Station.{Station}
use Rattle.station.specs.Station.{turnout_at, route_at}

pub record TypedTurnout (t : Turnout) : Type 0 where
  pub zone : t.zone < 256
  pub group : t.group < 256
  pub drive : t.drive < 256

pub record TypedRoute (r : Route) : Type 0 where
  pub zone : r.zone < 256
  pub over : r.over < 2 ^ 64
  pub flank : r.flank < 2 ^ 64
  pub exits : r.exits < 2 ^ 64
  pub reverse : r.reverse < 2 ^ 64

pub record TypedStation (st : Station) : Type 0 where
  pub turnouts : st.turnouts < 256
  pub routes : st.routes < 256
  pub zones : st.zones < 256
  pub turnout-places : length st.turnout ≡ 64
  pub route-places : length st.route ≡ 64
  pub turnout : (n : ℕ) → TypedTurnout (turnout_at st n)
  pub route : (n : ℕ) → TypedRoute (route_at st n)
