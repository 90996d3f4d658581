-- Counts of a station that are in range.
use Rattle.std.specs.Prelude.{◌≤◌}
use Rattle.station.specs.declared.Station.{Station}

-- SHEET-1 (docs/RULES.md): "counts P of turnouts (1 to 64), R of routes (0 to 64), Z of zones (1 to 8)"
pub record GoodCounts (st : Station) : Type 0 where
  pub some-turnout : 1 ≤ st.turnouts
  pub turnouts-limit : st.turnouts ≤ 64
  pub routes-limit : st.routes ≤ 64
  pub some-zone : 1 ≤ st.zones
  pub zones-limit : st.zones ≤ 8
