-- A unit, UNIT-1 to UNIT-4 and UNIT-6 (docs/RULES.md): a desk kept in 520 bytes that the caller
-- lends at each call. A record or a question is refused by the sheet's number, then by 61 for bytes
-- that no desk encodes to (also bytes of another length), then as the desk refuses it; a fresh desk
-- by 61 for a buffer of another length. A refusal leaves the bytes as they were, and has 0 minutes.
use Rattle.std.specs.Prelude.{cond, false, List, ℕ, eqb, length, Result, Ok, Err}
use Rattle.refusals.specs.declared.Refusal.{Refusal}
use Rattle.refusals.specs.Numbers.{number_of}
use Rattle.message.specs.Record.{WriteAnswer}
use Rattle.sheet.specs.Sheet.{Sheet, read_sheet}
use Rattle.desk.specs.Desk.{Applied, fresh_desk, applied_record}
use Rattle.desk.specs.Questions.{MovementAnswer, WorkAnswer, movement_refused, movement_answered, work_answered}
use Rattle.desk_bytes.specs.Encoding.{desk_bytes, desk_in, is_desk}
use Rattle.packed.specs.Packed.{answer_packed}

-- UNIT-6: the fresh desk in a buffer of its length
unfoldable pub unit_fresh : List ℕ → WriteAnswer
unit_fresh desk =
    cond (eqb (length desk) 520)
    (record { code = 0; bytes = desk_bytes fresh_desk })
    (record { code = 61; bytes = desk })

-- UNIT-3, UNIT-4: the sheet's number, then 61 for bytes that are no desk's; 0 where both are good
abbrev pub start_number : ℕ → List ℕ → ℕ
start_number code desk = cond (eqb code 0) (cond (is_desk desk) 0 61) code

-- what a record or a question starts from: the sheet as it was read, with that number
unfoldable pub started : List ℕ → List ℕ → Sheet
started sheet desk = record {
  code = start_number (read_sheet sheet).code desk;
  index = (read_sheet sheet).index;
  station = (read_sheet sheet).station;
}

-- what hearing a record gives and leaves: the code, the minutes, the desk's bytes
pub record UnitAnswer : Type 0 where
  pub code : ℕ
  pub minutes : ℕ
  pub bytes : List ℕ

-- a refusal, MINUTES-2: "every other answer has 0" minutes
abbrev pub refused_unit : List ℕ → ℕ → UnitAnswer
refused_unit desk number = record { code = number; minutes = 0; bytes = desk }

-- the unit's answer that its bytes then, and the minutes or a refusal, stand for
abbrev pub unit_answer_of : List ℕ → Result ℕ Refusal → UnitAnswer
unit_answer_of desk (Ok minutes) = record { code = 0; minutes = minutes; bytes = desk }
unit_answer_of desk (Err e) = refused_unit desk (number_of e)

-- UNIT-3: the answer of the desk, stored where it accepts
unfoldable pub stored : List ℕ → Applied → UnitAnswer
stored desk a =
    cond (eqb a.code 0)
    (record { code = 0; minutes = a.minutes; bytes = desk_bytes a.desk })
    (refused_unit desk a.code)

-- UNIT-3: a record heard by the unit
unfoldable pub unit_applied : List ℕ → List ℕ → List ℕ → UnitAnswer
unit_applied sheet desk bytes =
    let at = started sheet desk in
    cond (eqb at.code 0)
    (stored desk (applied_record at.station (desk_in desk) bytes))
    (refused_unit desk at.code)

-- the same as the call gives it: the code and the minutes in one number, and the desk's bytes
pub record UnitCall : Type 0 where
  pub answer : ℕ
  pub bytes : List ℕ

abbrev pub called : UnitAnswer → UnitCall
called a = record { answer = answer_packed a.code a.minutes; bytes = a.bytes }

-- UNIT-4: the two questions; a refusal has the values of the desk's refusal
unfoldable pub unit_movement : List ℕ → List ℕ → ℕ → ℕ → MovementAnswer
unit_movement sheet desk zone train =
    let at = started sheet desk in
    cond (eqb at.code 0)
    (movement_answered at.station (desk_in desk) zone train)
    (movement_refused at.code)

unfoldable pub unit_work : List ℕ → List ℕ → ℕ → WorkAnswer
unit_work sheet desk turnout =
    let at = started sheet desk in
    cond (eqb at.code 0)
    (work_answered at.station (desk_in desk) turnout)
    (record { code = at.code; yes = false })
