-- Turnout records of version 1: SHEET-2, SHEET-11, SHEET-13 and SHEET-14 (docs/RULES.md). The byte where
-- version 2 has the group's number is the partner there, and the station in the bytes holds it in the
-- field `group` until its crossovers become groups.
use Rattle.std.specs.Prelude.{Bool, cond, not, ◌&&◌, ◌||◌, Option, ℕ, min, eqb, ltb, leb}
use Rattle.sets.specs.Range.{first_from, count_from}
use Rattle.sets.specs.Table.{places}
use Rattle.station.specs.declared.Turnout.{Turnout}
use Rattle.station.specs.declared.Station.{Station}
use Rattle.station.specs.Station.{empty_turnout, turnout_at, turnout_count, zone_count}
use Rattle.group_records.specs.GroupRecords.{found_below}

-- SHEET-13: "A partner is below P, not itself, names it back, and has the same zone and drive": of
-- turnout n, its record t and its partner's record o
abbrev pub partner_kept : ℕ → ℕ → Turnout → Turnout → Bool
partner_kept p n t o =
    ltb t.group p
    && not (eqb t.group n)
    && eqb o.group n
    && eqb o.zone t.zone
    && eqb o.drive t.drive

-- SHEET-2, SHEET-13: "zone (below Z); partner (the other end of a crossover, or 255 for none); drive (0
-- electric, 1 hand with key lock)"
abbrev pub turnout_kept : ℕ → ℕ → ℕ → Turnout → Turnout → Bool
turnout_kept p z n t o =
    ltb t.zone z && leb t.drive 1 && (eqb t.group 255 || partner_kept p n t o)

-- the partner that turnout n names
abbrev pub partner_of : Station → ℕ → ℕ
partner_of st n = (turnout_at st n).group

unfoldable pub good_turnout : Station → ℕ → Bool
good_turnout st n =
    turnout_kept (turnout_count st) (zone_count st) n (turnout_at st n) (turnout_at st (partner_of st n))

-- SHEET-11: "the first bad record ends the reading": its index, or the count where all are good
unfoldable pub bad_turnout : Station → ℕ
bad_turnout st = first_from (λ n. not (good_turnout st n)) 0 (turnout_count st)

-- the same for code: the first bad record, if there is one
abbrev pub first_bad_turnout : Station → Option ℕ
first_bad_turnout st = found_below (bad_turnout st) (turnout_count st)

-- turnout n, with the record t, is the lower end of a crossover
abbrev pub lower_end_of : ℕ → ℕ → Turnout → Bool
lower_end_of p n t = ltb t.group p && ltb n t.group

abbrev pub lower_end : Station → ℕ → Bool
lower_end st n = lower_end_of (turnout_count st) n (turnout_at st n)

-- SHEET-14: "its pairs become groups numbered from 0 by their lowest turnout": how many crossovers have a
-- lower end below this one's; a turnout without a partner is alone
unfoldable pub pair_number : Station → ℕ → ℕ
pair_number st n =
    cond (eqb (partner_of st n) 255) 255 (count_from (lower_end st) 0 (min n (partner_of st n)))

abbrev pub with_number : Turnout → ℕ → Turnout
with_number t g = record { zone = t.zone; group = g; drive = t.drive }

-- SHEET-14: the station of a sheet of version 1, its crossovers being groups
unfoldable pub renumbered : Station → Station
renumbered st = record {
  turnouts = st.turnouts;
  routes = st.routes;
  zones = st.zones;
  turnout = places (λ n. with_number (turnout_at st n) (pair_number st n)) st.turnouts empty_turnout;
  route = st.route;
}
