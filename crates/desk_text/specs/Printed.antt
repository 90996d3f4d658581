-- What the desk program prints: PROGRAM-1 and PROGRAM-2 (docs/RULES.md).
use Rattle.std.specs.Prelude.{cond, not, List, [], ◌∷◌, ◌++◌, ℕ, eqb, replicate}
use Rattle.sheet.specs.Sheet.{read_sheet}
use Rattle.journal.specs.Journal.{journal_number, counted}
use Rattle.report.specs.Text.{decimal, lines_from, text_of}
use Rattle.replay.specs.Replay.{inputs_of, ran, replayed}

-- room for the answers of 1,024 records, 5 bytes each
unfoldable pub room : List ℕ
room = replicate 5120 0

-- the text of what replaying gives
unfoldable pub printed : List ℕ → List ℕ → List ℕ
printed sheet journal =
    let a = replayed sheet journal room in
    text_of a.code a.bytes (counted journal)

-- PROGRAM-1, PROGRAM-2: "prints per record: its number from 1, the code, the minutes. A refused
-- sheet, else a refused journal, prints only its refusal number, on one line." The law `prints`
-- says that `printed` is this.
unfoldable pub as_written : List ℕ → List ℕ → List ℕ
as_written sheet journal =
    cond (not (eqb (read_sheet sheet).code 0)) (decimal (read_sheet sheet).code ++ (10 ∷ []))
    (cond (not (eqb (journal_number journal) 0)) (decimal (journal_number journal) ++ (10 ∷ []))
    (lines_from (ran (read_sheet sheet).station (inputs_of journal) room).bytes 0 (counted journal)))
