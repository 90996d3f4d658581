-- Demand 3's sentences on the two questions, HIST-10 and HIST-11 (docs/RULES.md), in the numbers
-- that the unit's calls return: 'yes' and 'signals clear' are a 1 in byte 1. And what is accepted:
-- a 0 in byte 0.
use Rattle.std.specs.Prelude.{true, List, ◌≡◌, ◌↔◌, ℕ}
use Rattle.packing.specs.Bytes.{byte_of}
use Rattle.message.specs.declared.Message.{Message}
use Rattle.sheet.specs.Sheet.{read_sheet}
use Rattle.packed.specs.Packed.{movement_packed, work_packed}
use Rattle.packed.specs.Unpacked.{AnswerBytes}
use Rattle.history.specs.Lists.{Input, desk_after, zone_messages}
use Rattle.history.specs.Since.{since}
use Rattle.history.specs.History.{standing, open_to_work, EachWorkedAllowsClear}
use Rattle.works_desk_unit.specs.Unit.{unit_applied, unit_movement, unit_work}
use Rattle.works_desk_unit.specs.OneByOne.{unit_of, Each, IsRecord}

-- what the calls return after a list of records
pub record CallsHold (sheet : List ℕ) (inputs : List Input) : Type 0 where
  -- unit_apply, of a further record: its code in byte 0, its minutes above
  pub answer :
      (r : List ℕ)
      → let a = unit_applied sheet (desk_after (unit_of sheet) (read_sheet sheet).station inputs) r in
      AnswerBytes a.code a.minutes
  -- unit_work, HIST-10: "the desk says yes exactly when that turnout is open to work"
  pub work :
      (t : ℕ)
      → let st = (read_sheet sheet).station in
      (byte_of 1 (work_packed (unit_work sheet (desk_after (unit_of sheet) st inputs) t)) ≡ 1)
      ↔ ((z : ℕ) × (open_to_work t (zone_messages (unit_of sheet) st inputs z) ≡ true))
  -- unit_movement, HIST-11: "A standing movement is answered 'signals clear' exactly when each
  -- turnout of its route under agreed work has .."
  pub clear :
      (z : ℕ) (f : Message) (rest : List Message)
      → let st = (read_sheet sheet).station in
      standing (zone_messages (unit_of sheet) st inputs z) ≡ since f rest
      → (byte_of 1
      (movement_packed (unit_movement sheet (desk_after (unit_of sheet) st inputs) z f.id)) ≡ 1)
      ↔ EachWorkedAllowsClear st (zone_messages (unit_of sheet) st inputs z) f rest

-- UNIT-5: after every list of records that a unit has heard one by one, on every sheet that is
-- accepted
abbrev pub CallsDemand3 : Type 0
CallsDemand3 =
    (sheet : List ℕ) → (read_sheet sheet).code ≡ 0 → (inputs : List Input) → Each IsRecord inputs
    → CallsHold sheet inputs
