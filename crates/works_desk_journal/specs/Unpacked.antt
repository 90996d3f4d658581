-- Packed answers taken apart: where each value stands in the number.
use Rattle.std.specs.Prelude.{false, ◌≡◌, ℕ, eqb}
use Rattle.packing.specs.Bytes.{above, byte_of}
use Rattle.sheet.specs.Sheet.{Finding}
use Rattle.journal.specs.Journal.{record_place}
use Rattle.works_desk_journal.specs.Packed.{finding_packed, record_packed}

-- a sheet, and a sheet's copy: byte 0 is the code, byte 1 the index of the bad record
pub record FindingBytes (f : Finding) : Type 0 where
  pub code-byte : byte_of 0 (finding_packed f) ≡ f.code
  pub index-byte : byte_of 1 (finding_packed f) ≡ f.index

-- record n: byte 0 is the code; where it is 0, the place of the record stands above it, else 0
pub record RecordBytes (code n : ℕ) : Type 0 where
  pub code-byte : byte_of 0 (record_packed code n) ≡ code
  pub place-above : code ≡ 0 → above 1 (record_packed code n) ≡ record_place n
  pub none_above : eqb code 0 ≡ false → above 1 (record_packed code n) ≡ 0
