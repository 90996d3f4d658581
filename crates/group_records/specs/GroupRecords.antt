-- Turnout records of version 2: SHEET-2, SHEET-3 and SHEET-11 (docs/RULES.md).
use Rattle.std.specs.Prelude.{Bool, cond, not, ◌&&◌, ◌||◌, List, Option, Some, None, get_or}
use Rattle.std.specs.Prelude.{ℕ, ◌+◌, ◌*◌, min, eqb, ltb, leb}
use Rattle.sets.specs.Range.{first_from}
use Rattle.sets.specs.Sets.{within, set_of, count}
use Rattle.sets.specs.Table.{places}
use Rattle.station.specs.declared.Turnout.{Turnout}
use Rattle.station.specs.declared.Station.{Station}
use Rattle.station.specs.Station.{empty_turnout, turnout_at, turnout_count, zone_count}
use Rattle.groups.specs.Groups.{tied}

-- SHEET-3: two turnouts have "one zone and one drive"
abbrev pub same_zone_drive : Turnout → Turnout → Bool
same_zone_drive o t = eqb o.zone t.zone && eqb o.drive t.drive

-- the turnouts of a record's zone and drive, of p turnouts with the records ts
unfoldable pub alike : ℕ → List Turnout → Turnout → ℕ
alike p ts t = set_of (λ k. same_zone_drive (get_or ts k empty_turnout) t) (min p 64)

-- SHEET-3: "A group has 2 to 8 turnouts of one zone and one drive": of a group, given the turnouts of the
-- zone and drive of one of its own
abbrev pub group_kept : ℕ → ℕ → Bool
group_kept group like = leb 2 (count group) && leb (count group) 8 && within group like

-- SHEET-2: "zone (below Z); .. drive (0 electric, 1 hand with key lock)", and in version 2 "a group number,
-- 0 to 31 or 255 for alone, where the partner stood"
abbrev pub turnout_kept : ℕ → Turnout → ℕ → ℕ → Bool
turnout_kept z t group like =
    ltb t.zone z
    && leb t.drive 1
    && (eqb t.group 255 || ltb t.group 32 && group_kept group like)

-- SHEET-11: "A wrong group is a bad turnout record". Each turnout of a wrong group is bad here, so the
-- first bad one is its first carrier, or an earlier record: specs/FirstCarrier.antt.
unfoldable pub good_turnout : Station → ℕ → Bool
good_turnout st n =
    let t = turnout_at st n in
    turnout_kept (zone_count st) t (tied st n) (alike st.turnouts st.turnout t)

-- SHEET-11: "the first bad record ends the reading": its index, or the count where all are good
unfoldable pub bad_turnout : Station → ℕ
bad_turnout st = first_from (λ n. not (good_turnout st n)) 0 (turnout_count st)

-- the same for code: a number below a limit, or none; and the first bad record, if there is one
abbrev pub found_below : ℕ → ℕ → Option ℕ
found_below n limit = cond (ltb n limit) (Some n) None

abbrev pub first_bad_turnout : Station → Option ℕ
first_bad_turnout st = found_below (bad_turnout st) (turnout_count st)

-- For code: a number for each zone below 8 and each drive, and the records that carry it in place of a
-- group's. The turnouts of one such zone and drive are then tied: the law `same-likes`.
abbrev pub zone_drive_number : Turnout → ℕ
zone_drive_number t = cond (ltb t.zone 8 && leb t.drive 1) (t.zone * 2 + t.drive) 255

abbrev pub as_zone_drive : Turnout → Turnout
as_zone_drive t = record { zone = t.zone; group = zone_drive_number t; drive = t.drive }

unfoldable pub by_zone_drive : ℕ → List Turnout → List Turnout
by_zone_drive p ts = places (λ n. as_zone_drive (get_or ts n empty_turnout)) p empty_turnout
