-- The bytes of a station sheet: SHEET-1, SHEET-2, SHEET-4 and SHEET-10 to SHEET-12 (docs/RULES.md).
use Rattle.std.specs.Prelude.{Bool, cond, not, ◌&&◌, ◌||◌, List, ℕ, ◌+◌, ◌*◌, eqb, ltb, leb, length, get_or}
use Rattle.bigendian.specs.BigEndian.{number_at}
use Rattle.sets.specs.Table.{places}
use Rattle.station.specs.declared.Turnout.{Turnout}
use Rattle.station.specs.declared.Route.{Route}
use Rattle.station.specs.declared.Station.{Station}
use Rattle.station.specs.Station.{empty_turnout, empty_route}

-- SHEET-1: "Header, 8 bytes: the letters SPT, version (16 bits, ..), counts P of turnouts .., R of
-- routes .., Z of zones .., a byte each."
abbrev pub has_mark : List ℕ → Bool
has_mark s = eqb (get_or s 0 0) 83 && eqb (get_or s 1 0) 80 && eqb (get_or s 2 0) 84

abbrev pub version : List ℕ → ℕ
version s = number_at 2 s 3

abbrev pub count_p : List ℕ → ℕ
count_p s = get_or s 5 0

abbrev pub count_r : List ℕ → ℕ
count_r s = get_or s 6 0

abbrev pub count_z : List ℕ → ℕ
count_z s = get_or s 7 0

-- SHEET-1: "version, 16 bits, 1 or 2"
abbrev pub version_kept : ℕ → Bool
version_kept v = eqb v 1 || eqb v 2

-- at most so many turnouts and routes
abbrev pub within_limits : ℕ → ℕ → ℕ → ℕ → Bool
within_limits turnouts routes p r = leb p turnouts && leb r routes

-- SHEET-1: "P of turnouts (1 to 64), R of routes (0 to 64), Z of zones (1 to 8)"
abbrev pub counts_kept : ℕ → ℕ → ℕ → Bool
counts_kept p r z = leb 1 p && within_limits 64 64 p r && leb 1 z && leb z 8

-- SHEET-10: "The length is exactly 8 + 3P + 33R."
abbrev pub sheet_length : ℕ → ℕ → ℕ
sheet_length p r = 8 + 3 * p + 33 * r

abbrev pub length_kept : List ℕ → Bool
length_kept s = eqb (length s) (sheet_length (count_p s) (count_r s))

-- SHEET-11: "Order: under 8 bytes, mark, version, counts (zone byte included), ..": the number of
-- the first that fails, else that of the checks that come after them
abbrev pub before_length : List ℕ → ℕ → ℕ
before_length s later =
    cond (ltb (length s) 8) 1
    (cond (not (has_mark s)) 2
    (cond (not (version_kept (version s))) 3
    (cond (not (counts_kept (count_p s) (count_r s) (count_z s))) 4
    later)))

-- SHEET-11: ".. length"
abbrev pub length_number : List ℕ → ℕ
length_number s = cond (not (length_kept s)) 1 0

-- SHEET-11, the desk's order: nothing stands between counts and length
unfoldable pub header_number : List ℕ → ℕ
header_number s = before_length s (length_number s)

-- SHEET-2: "turnout records of 3 bytes: zone ..; the number of its group ..; drive ..": the record at an
-- index. In version 1 the byte between is the partner, which stands in the place of the number until
-- crossovers become groups (SHEET-13, SHEET-14).
abbrev pub turnout_in : List ℕ → ℕ → Turnout
turnout_in s at =
    record { zone = get_or s at 0; group = get_or s (at + 1) 0; drive = get_or s (at + 2) 0 }

-- SHEET-4: "routes of 33 bytes: zone, then the sets run over, flank, exit zone, reverse": the
-- record at an index
abbrev pub route_in : List ℕ → ℕ → Route
route_in s at = record {
  zone = get_or s at 0;
  over = number_at 8 s (at + 1);
  flank = number_at 8 s (at + 9);
  exits = number_at 8 s (at + 17);
  reverse = number_at 8 s (at + 25);
}

abbrev pub turnout_place : ℕ → ℕ
turnout_place n = 8 + 3 * n

abbrev pub route_place : ℕ → ℕ → ℕ
route_place p n = 8 + 3 * p + 33 * n

-- the station that stands in the bytes; SHEET-12: "Records past P and R are 0 in the station."
unfoldable pub station_in : List ℕ → Station
station_in s = record {
  turnouts = count_p s;
  routes = count_r s;
  zones = count_z s;
  turnout = places (λ i. turnout_in s (turnout_place i)) (count_p s) empty_turnout;
  route = places (λ i. route_in s (route_place (count_p s) i)) (count_r s) empty_route;
}
