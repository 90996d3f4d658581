-- Judging a station and reading a sheet of either version: SHEET-1, SHEET-5 to SHEET-9, SHEET-11,
-- SHEET-12 and SHEET-14 (docs/RULES.md).
use Rattle.std.specs.Prelude.{Bool, cond, not, ◌&&◌, ◌||◌, List, Option, Result, Ok, Err, ℕ, ◌^◌, ◌-◌, eqb, ltb}
use Rattle.std.specs.Int.Bits.{bit_and}
use Rattle.sets.specs.Range.{first_from, all_from}
use Rattle.sets.specs.Sets.{has, is_empty, overlaps, within, count}
use Rattle.station.specs.declared.Turnout.{Turnout}
use Rattle.station.specs.declared.Route.{Route}
use Rattle.station.specs.declared.Station.{Station}
use Rattle.refusals.specs.declared.Refusal.{Refusal}
use Rattle.refusals.specs.Numbers.{number_of, index_of}
use Rattle.station.specs.Station.{empty_station, turnout_at, route_at, turnout_count, route_count}
use Rattle.groups.specs.Groups.{tied, whole}
use Rattle.station.specs.Station.{named_by}
use Rattle.partner_records.specs.PartnerRecords as partners
use Rattle.group_records.specs.GroupRecords as groups
use Rattle.layout.specs.Layout.{header_number, version, station_in}

-- What reading a sheet gives: 0 and the station; or the number that refuses it, the index of the record
-- for 5 and 6 (else 0), and the station that is 0 throughout (SHEET-11, SHEET-12).
pub record Sheet : Type 0 where
  pub station : Station
  pub code : ℕ
  pub index : ℕ

-- What judging a station finds: 0, or the number and the index of its first bad record.
pub record Finding : Type 0 where
  pub code : ℕ
  pub index : ℕ

-- the turnouts below p, all of them
abbrev pub all_turnouts : ℕ → ℕ
all_turnouts p = 2 ^ p - 1

-- SHEET-5, SHEET-6, SHEET-7: "The first three are pairwise disjoint; their union .. lies among the
-- P turnouts ..; run over is not empty; reverse lies within the union."
abbrev pub sets_kept : ℕ → Route → Bool
sets_kept p r =
    not (overlaps r.over r.flank)
    && not (overlaps r.over r.exits)
    && not (overlaps r.flank r.exits)
    && within (named_by r) (all_turnouts p)
    && not (is_empty r.over)
    && within r.reverse (named_by r)

-- What a route asks of turnout n, its record t and the turnouts tied to it: SHEET-6: a named turnout is
-- in the route's zone; SHEET-8: "it must take a group whole or not at all, and so must the flank of a
-- route"; SHEET-9: "The rule of equal position holds for groups of two.": those that are named have the
-- same position
abbrev pub member_kept : Route → ℕ → Turnout → ℕ → Bool
member_kept r n t group =
    (not (has (named_by r) n) || eqb t.zone r.zone)
    && (not (has r.flank n) || within group r.flank)
    && (not (eqb (count group) 2) || whole (bit_and group (named_by r)) r.reverse)

-- For code: a group if it is one of two, else nothing; and the same question by that. The law `by-pair`
-- says that it is the same.
abbrev pub pair_in : ℕ → ℕ
pair_in group = cond (eqb (count group) 2) group 0

abbrev pub member_by : Route → ℕ → Turnout → ℕ → ℕ → Bool
member_by r n t group pair =
    (not (has (named_by r) n) || eqb t.zone r.zone)
    && (not (has r.flank n) || within group r.flank)
    && whole (bit_and pair (named_by r)) r.reverse

unfoldable pub good_route : Station → ℕ → Bool
good_route st n =
    let r = route_at st n in
    sets_kept (turnout_count st) r
    && all_from (λ t. member_kept r t (turnout_at st t) (tied st t)) 0 (turnout_count st)

-- SHEET-11: "the first bad record ends the reading": its index, or the count where all are good
unfoldable pub bad_route : Station → ℕ
bad_route st = first_from (λ n. not (good_route st n)) 0 (route_count st)

-- the same for code: the first bad route, if there is one
abbrev pub first_bad_route : Station → Option ℕ
first_bad_route st = groups.found_below (bad_route st) (route_count st)

-- SHEET-11: "1, 2, 3, 4 .. 5, 6, with record index from 0 (else 0)"; SHEET-12: "empty station,
-- every number 0"; so with the panel's 9 (PANEL-2)
abbrev pub refused_sheet : ℕ → ℕ → Sheet
refused_sheet number place = record { code = number; index = place; station = empty_station }

abbrev pub accepted_sheet : Station → Sheet
accepted_sheet st = record { code = 0; index = 0; station = st }

-- what code answers, as such a sheet: the station, or the refusal by its number and index
abbrev pub sheet_of : Result Station Refusal → Sheet
sheet_of (Ok st) = accepted_sheet st
sheet_of (Err e) = refused_sheet (number_of e) (index_of e)

-- and as a finding
abbrev pub found_of : {A : Type 0} → Result A Refusal → Finding
found_of (Ok a) = record { code = 0; index = 0 }
found_of (Err e) = record { code = number_of e; index = index_of e }

-- SHEET-11, routes: the station, or the number and index of its first bad route; asked where its
-- turnouts are good
unfoldable pub routes_judged : Station → Sheet
routes_judged st =
    cond (ltb (bad_route st) (route_count st)) (refused_sheet 6 (bad_route st)) (accepted_sheet st)

-- the number and the index of an answer
abbrev pub finding_of : Sheet → Finding
finding_of a = record { code = a.code; index = a.index }

-- the answer by a finding on a station
abbrev pub sheet_by : Finding → Station → Sheet
sheet_by f st = cond (eqb f.code 0) (accepted_sheet st) (refused_sheet f.code f.index)

-- SHEET-11: ".. turnouts, routes", version 2: the station, or the number and index of its first bad
-- record; asked where its counts are in range
unfoldable pub judged : Station → Sheet
judged st =
    let bad = groups.bad_turnout st in
    cond (ltb bad (turnout_count st)) (refused_sheet 5 bad) (routes_judged st)

-- the same of version 1; SHEET-14: "its pairs become groups", and its routes are judged by these
unfoldable pub judged_by_partners : Station → Sheet
judged_by_partners st =
    let bad = partners.bad_turnout st in
    cond (ltb bad (turnout_count st)) (refused_sheet 5 bad) (routes_judged (partners.renumbered st))

-- SHEET-14: the station that a sheet of a version gives, by the one that stands in its bytes
abbrev pub meant : ℕ → Station → Station
meant v st = cond (eqb v 1) (partners.renumbered st) st

-- For code: the first bad turnout, and what is found of the turnouts, by the sheet's version. The law
-- `by-turnouts` says that what follows is the answer below.
abbrev pub bad_turnout_by : ℕ → Station → ℕ
bad_turnout_by v st = cond (eqb v 1) (partners.bad_turnout st) (groups.bad_turnout st)

abbrev pub turnouts_found : ℕ → Station → Finding
turnouts_found v st =
    let bad = bad_turnout_by v st in
    cond (ltb bad (turnout_count st)) (record { code = 5; index = bad }) (record { code = 0; index = 0 })

-- SHEET-1, SHEET-11: the answer to the station in the bytes of a sheet, by its version
abbrev pub judged_by : ℕ → Station → Sheet
judged_by v st = cond (eqb v 1) (judged_by_partners st) (judged st)

-- the answer to bytes to whose header a reader's checks give a number: the refusal by it, or for 0
-- the judgement of the station in the bytes
abbrev pub after_header : ℕ → List ℕ → Sheet
after_header number s =
    cond (eqb number 0) (judged_by (version s) (station_in s)) (refused_sheet number 0)

-- SHEET-11, SHEET-12: the answer to any bytes as a sheet
unfoldable pub read_sheet : List ℕ → Sheet
read_sheet s = after_header (header_number s) s
