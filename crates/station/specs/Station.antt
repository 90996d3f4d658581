-- What a station says of its turnouts, routes and zones, for every station value. VALUE-1 and
-- VALUE-3 (docs/RULES.md): "a count over its limit is read as the limit, .. a stored route not below
-- R names nothing". What is tied together is in the crate `groups`.
use Rattle.std.specs.Prelude.{Bool, cond, List, ℕ, min, eqb, ltb, get_or, replicate}
use Rattle.sets.specs.Sets.{union, set_of}
use Rattle.station.specs.declared.Turnout.{Turnout}
use Rattle.station.specs.declared.Route.{Route}
use Rattle.station.specs.declared.Station.{Station}

-- the number of a check whose test holds, else what the checks after it give
abbrev pub number_if : Bool → ℕ → ℕ → ℕ
number_if test number rest = cond test number rest

abbrev pub empty_turnout : Turnout
empty_turnout = record { zone = 0; group = 0; drive = 0 }

abbrev pub empty_route : Route
empty_route = record { zone = 0; over = 0; flank = 0; exits = 0; reverse = 0 }

-- SHEET-12: "empty station, every number 0"
unfoldable pub empty_station : Station
empty_station = record {
  turnouts = 0;
  routes = 0;
  zones = 0;
  turnout = replicate 64 empty_turnout;
  route = replicate 64 empty_route;
}

-- a station by its turnouts alone: P, Z and their records, for what does not look at routes
abbrev pub turnouts_alone : ℕ → ℕ → List Turnout → Station
turnouts_alone p z ts =
    record { turnouts = p; routes = 0; zones = z; turnout = ts; route = replicate 64 empty_route }

-- the stored records; past the last place every number is 0
abbrev pub turnout_at : Station → ℕ → Turnout
turnout_at st n = get_or st.turnout n empty_turnout

abbrev pub route_at : Station → ℕ → Route
route_at st n = get_or st.route n empty_route

-- P, R and Z; VALUE-1: "a count over its limit is read as the limit"
abbrev pub turnout_count : Station → ℕ
turnout_count st = min st.turnouts 64

abbrev pub route_count : Station → ℕ
route_count st = min st.routes 64

abbrev pub zone_count : Station → ℕ
zone_count st = min st.zones 8

abbrev pub zone_of : Station → ℕ → ℕ
zone_of st n = (turnout_at st n).zone

abbrev pub drive_of : Station → ℕ → ℕ
drive_of st n = (turnout_at st n).drive

-- the turnouts that meet a test by their records, of p turnouts with the records ts; VALUE-1: "a count
-- over its limit is read as the limit"
unfoldable pub turnouts_meeting : (Turnout → Bool) → ℕ → List Turnout → ℕ
turnouts_meeting test p ts = set_of (λ n. test (get_or ts n empty_turnout)) (min p 64)

-- the turnouts of a zone
unfoldable pub zone_turnouts : Station → ℕ → ℕ
zone_turnouts st z = set_of (λ n. eqb (zone_of st n) z) (turnout_count st)

-- SHEET-5: "their union is what the route names"
abbrev pub named_by : Route → ℕ
named_by r = union (union r.over r.flank) r.exits

-- route n as it counts; VALUE-3: "a stored route not below R names nothing"
unfoldable pub the_route : Station → ℕ → Route
the_route st n = cond (ltb n (route_count st)) (route_at st n) empty_route

-- the same for whoever keeps the 64 records himself: the index of the record to look at, 0 for a
-- number from 64 on, and the route by that record, of a station whose count of routes is given. The
-- law `route-by-record` says that this is the route as it counts.
abbrev pub route_index : ℕ → ℕ
route_index n = cond (ltb n 64) n 0

abbrev pub route_by : ℕ → ℕ → Route → Route
route_by count n r = cond (ltb n (min count 64)) r empty_route
