-- Answers of several values as one number: the code in its lowest byte, and the other values above
-- it.
use Rattle.std.specs.Prelude.{cond, List, ℕ, ◌*◌, eqb}
use Rattle.packing.specs.Bytes.{two_packed}
use Rattle.sheet.specs.Sheet.{Finding, Sheet, finding_of}
use Rattle.sheet_writer.specs.Writer.{SheetCopied}
use Rattle.journal.specs.Journal.{record_place}

-- a sheet: the code, the index of the bad record
abbrev pub finding_packed : Finding → ℕ
finding_packed f = two_packed f.code f.index

abbrev pub sheet_packed : Sheet → ℕ
sheet_packed a = finding_packed (finding_of a)

-- a sheet's copy: the same, and the buffer
pub record CopyCall : Type 0 where
  pub answer : ℕ
  pub bytes : List ℕ

abbrev pub copy_packed : SheetCopied → CopyCall
copy_packed a = record { answer = finding_packed a.found; bytes = a.bytes }

-- record n: code 0 and the place where it starts, or the code that refuses it
abbrev pub record_packed : ℕ → ℕ → ℕ
record_packed code n = cond (eqb code 0) (256 * record_place n) code
