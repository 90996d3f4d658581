-- Where a wrong group is reported: SHEET-11 (docs/RULES.md): "It is reported at the first turnout that
-- carries that number." The claim stands at the end; proofs/FirstCarrier.antt proves it.
use Rattle.std.specs.Prelude.{Bool, not, ◌&&◌, ◌||◌, ◌≡◌, ℕ, eqb, ltb, leb}
use Rattle.sets.specs.Range.{first_from, all_from}
use Rattle.station.specs.declared.Station.{Station}
use Rattle.station.specs.Station.{turnout_at, turnout_count, zone_count}
use Rattle.groups.specs.Groups.{tied}
use Rattle.group_records.specs.GroupRecords.{alike, group_kept, bad_turnout}

-- a record is good by its own zone, drive and number
abbrev pub good_alone : Station → ℕ → Bool
good_alone st n =
    let t = turnout_at st n in
    ltb t.zone (zone_count st) && leb t.drive 1 && (eqb t.group 255 || ltb t.group 32)

-- no turnout before it carries its number
abbrev pub first_carrier : Station → ℕ → Bool
first_carrier st n = all_from (λ k. not (eqb (turnout_at st k).group (turnout_at st n).group)) 0 n

-- it carries the number of a group that is wrong
abbrev pub wrong_group : Station → ℕ → Bool
wrong_group st n =
    let t = turnout_at st n in
    ltb t.group 32 && not (group_kept (tied st n) (alike st.turnouts st.turnout t))

-- SHEET-11: "bad by its own zone, drive or number, or as the first carrier of a wrong group"
abbrev pub reported : Station → ℕ → Bool
reported st n = not (good_alone st n) || first_carrier st n && wrong_group st n

-- The claim: the first bad record is the first such one.
abbrev pub EachReported : Type 0
EachReported =
    (st : Station) → bad_turnout st ≡ first_from (reported st) 0 (turnout_count st)
