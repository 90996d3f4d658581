-- SHEET-12 (docs/RULES.md): "Records past P and R are 0 in the station."
use Rattle.std.specs.Prelude.{Bool, ◌&&◌, List, ℕ, ◌-◌, min, eqb, get_or}
use Rattle.sets.specs.Range.{all_from}
use Rattle.station.specs.declared.Turnout.{Turnout}
use Rattle.station.specs.declared.Route.{Route}
use Rattle.station.specs.Station.{empty_turnout, empty_route}

-- every number of a record is 0
abbrev pub is_zero_turnout : Turnout → Bool
is_zero_turnout t = eqb t.zone 0 && eqb t.group 0 && eqb t.drive 0

abbrev pub is_zero_route : Route → Bool
is_zero_route r =
    eqb r.zone 0
    && eqb r.over 0
    && eqb r.flank 0
    && eqb r.exits 0
    && eqb r.reverse 0

-- each of the 64 places from the count on passes the test
abbrev pub all_past : (ℕ → Bool) → ℕ → Bool
all_past test count = all_from test (min count 64) (64 - min count 64)

-- WRITE-3: no turnout record past P has a number that is not 0
unfoldable pub turnouts_end : ℕ → List Turnout → Bool
turnouts_end p ts = all_past (λ n. is_zero_turnout (get_or ts n empty_turnout)) p

-- WRITE-3: no route past R has one
unfoldable pub routes_end : ℕ → List Route → Bool
routes_end r rs = all_past (λ n. is_zero_route (get_or rs n empty_route)) r
