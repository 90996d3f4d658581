-- A unit that hears records one by one, as a desk of the lists of hearings, so that demand 3 can be
-- said of it; and the law that it gives what replaying a journal gives: UNIT-5 (docs/RULES.md).
use Rattle.std.specs.Prelude.{false, List, [], ◌∷◌, ◌≡◌, ℕ, ltb, length}
use Rattle.bigendian.specs.BigEndian.{Bytes}
use Rattle.message.specs.Record.{encoded}
use Rattle.sheet.specs.Sheet.{read_sheet}
use Rattle.desk.specs.Desk.{fresh_desk}
use Rattle.desk_bytes.specs.Encoding.{desk_bytes}
use Rattle.journal.specs.Journal.{counted}
use Rattle.report.specs.Answers.{answer_place}
use Rattle.history.specs.Lists.{Input, message, bytes, Heard, Model, after, answers}
use Rattle.history.specs.Demand3.{ours, Holds}
use Rattle.replay.specs.Replay.{inputs_of, stored_from, replayed, movement_replayed, work_replayed}
use Rattle.works_desk_unit.specs.Unit.{UnitAnswer, unit_applied, unit_movement, unit_work}

-- what a call leaves: the answer, and the desk's bytes
abbrev pub leaves : UnitAnswer → Heard (List ℕ)
leaves a = record { reply = record { code = a.code; minutes = a.minutes }; state = a.bytes }

-- what reaches a unit: bytes; a message would as its record (the theorems speak of bytes)
abbrev pub record_of : Input → List ℕ
record_of (message m) = encoded m
record_of (bytes s) = s

-- the unit of a sheet: it starts from the fresh desk's bytes, and each record is heard by the bytes
-- that the one before left
abbrev pub unit_of : List ℕ → Model
unit_of sheet = record {
  State = List ℕ;
  fresh = desk_bytes fresh_desk;
  hear = λ st s i. leaves (unit_applied sheet s (record_of i));
  movement = λ st s zone train. unit_movement sheet s zone train;
  work = λ st s turnout. unit_work sheet s turnout;
}

-- each input of a list passes
abbrev pub Each : (Input → Type 0) → List Input → Type 0
Each Q [] = Unit
Each Q (i ∷ inputs) = Q i × Each Q inputs

-- an input that is a record of bytes: a unit hears no other
abbrev pub IsRecord : Input → Type 0
IsRecord (message m) = ⊥
IsRecord (bytes s) = Bytes s

-- UNIT-5, demand 3 of the unit: after every list of records that it has heard one by one, on every
-- sheet that is accepted
abbrev pub UnitDemand3 : Type 0
UnitDemand3 =
    (sheet : List ℕ) → (read_sheet sheet).code ≡ 0 → (inputs : List Input) → Each IsRecord inputs
    → Holds (unit_of sheet) (read_sheet sheet).station inputs

-- UNIT-5, the law of the unit, which `one_by_one` gives of a sheet and a journal that are accepted:
-- the records of the journal, heard one by one, get the answers that replaying stores; the bytes
-- are then those of the desk after the journal; and the unit answers both questions as they are
-- answered after replaying.
pub record OneByOne (sheet journal : List ℕ) : Type 0 where
  pub replay :
      (buffer : List ℕ) → ltb (length buffer) (answer_place (counted journal)) ≡ false
      → let heard =
      answers (unit_of sheet) (read_sheet sheet).station (unit_of sheet).fresh (inputs_of journal) in
      replayed sheet journal buffer ≡ record { code = 0; bytes = stored_from buffer 0 heard }
  pub desk :
      after (unit_of sheet) (read_sheet sheet).station (unit_of sheet).fresh (inputs_of journal)
      ≡ desk_bytes (after ours (read_sheet sheet).station ours.fresh (inputs_of journal))
  pub movement :
      (zone train : ℕ)
      → let last =
      after (unit_of sheet) (read_sheet sheet).station (unit_of sheet).fresh (inputs_of journal) in
      unit_movement sheet last zone train ≡ movement_replayed sheet journal zone train
  pub work :
      (turnout : ℕ)
      → let last =
      after (unit_of sheet) (read_sheet sheet).station (unit_of sheet).fresh (inputs_of journal) in
      unit_work sheet last turnout ≡ work_replayed sheet journal turnout
