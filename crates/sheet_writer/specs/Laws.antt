-- What the writer guarantees: WRITE-1 to WRITE-5 (docs/RULES.md), sentence by sentence, through the
-- reader's own definition. The claims stand at the end; proofs/Laws.antt proves them.
use Rattle.std.specs.Prelude.{List, ◌≢◌, ◌↔◌, ◌≡◌, ℕ, ◌≤◌, ◌<◌, length, take, drop}
use Rattle.std.proofs.lemmas.List.Edits.{sets}
use Rattle.bigendian.specs.BigEndian.{Bytes}
use Rattle.station.specs.declared.Station.{Station}
use Rattle.layout.specs.Layout.{version}
use Rattle.sheet.specs.Sheet.{read_sheet, accepted_sheet, finding_of}
use Rattle.sheet_bytes.specs.SheetBytes.{sheet_bytes}
use Rattle.sheet_bytes.specs.Typed.{TypedStation}
use Rattle.sheet_writer.specs.Writer.{length_of, SheetWritten, written_sheet}
use Rattle.sheet_writer.specs.Writer.{SheetCopied, copied_sheet}

-- a sheet describes a station: bytes that are accepted and read as that station
pub record Describes (s : List ℕ) (st : Station) : Type 0 where
  pub bytes : Bytes s
  pub reads : read_sheet s ≡ accepted_sheet st

-- what WRITE-1 to WRITE-4 ask of the answer w of writing a station into a buffer
pub record WriterLaws (st : Station) (buffer : List ℕ) (w : SheetWritten) : Type 0 where
  -- WRITE-3: "Turned away: 7, a station that, as it stands, no sheet describes; ..
  pub no-sheet : (w.code ≡ 7) ↔ ((s : List ℕ) → Describes s st → ⊥)
  -- WRITE-4: .. then 8, a buffer shorter than the sheet; both after nothing else, ..
  pub short-buffer : (w.code ≡ 8) ↔ ((w.code ≢ 7) × (length buffer < length_of st))
  -- .. with the buffer untouched."
  pub untouched : w.code ≢ 0 → w.bytes ≡ buffer
  -- no other number comes
  pub accepted : w.code ≢ 7 → w.code ≢ 8 → w.code ≡ 0
  -- WRITE-2: "so that reading them yields that station"
  pub reads-back : w.code ≡ 0 → Describes (take (length_of st) w.bytes) st
  -- WRITE-1: "The writer writes version 2"
  pub second-version : w.code ≡ 0 → version (take (length_of st) w.bytes) ≡ 2
  -- WRITE-1: "Bytes past the sheet's length are untouched."
  pub past-untouched : w.code ≡ 0 → drop (length_of st) w.bytes ≡ drop (length_of st) buffer

-- what WRITE-2 asks of the answer w of writing the station of an accepted sheet s into a buffer: "a
-- sheet that was read and written comes out byte for byte", "for version 2 sheets and for every
-- station that either version yields"
pub record SheetLaws (s buffer : List ℕ) (w : SheetWritten) : Type 0 where
  -- of version 2, as the whole of a buffer of its length ..
  pub byte-for-byte :
      version s ≡ 2 → length buffer ≡ length s → w ≡ record { code = 0; bytes = s }
  -- .. and at the start of a longer one
  pub at-the-start :
      version s ≡ 2 → length s ≤ length buffer → w ≡ record { code = 0; bytes = sets buffer 0 s }
  -- of either version, as many bytes that are read alike
  pub written : length s ≤ length buffer → w.code ≡ 0
  pub reads-alike :
      length s ≤ length buffer → read_sheet (take (length s) w.bytes) ≡ read_sheet s

-- the answer of copying that has these values
abbrev pub copy_answer : ℕ → List ℕ → SheetCopied
copy_answer number bytes = record { found = record { code = number; index = 0 }; bytes = bytes }

-- WRITE-5: any bytes s, copied as a sheet
pub record CopyLaws (s buffer : List ℕ) : Type 0 where
  -- the sheet's number and index, with the buffer untouched
  pub refused :
      (read_sheet s).code ≢ 0
      → copied_sheet s buffer ≡ record { found = finding_of (read_sheet s); bytes = buffer }
  -- then 8
  pub short-buffer :
      (read_sheet s).code ≡ 0 → length buffer < length s → copied_sheet s buffer ≡ copy_answer 8 buffer
  -- else a sheet of version 2 at the start of the buffer that is read alike ..
  pub copied :
      (read_sheet s).code ≡ 0 → length s ≤ length buffer
      → copied_sheet s buffer ≡ copy_answer 0 (sets buffer 0 (sheet_bytes (read_sheet s).station))
  pub same_length :
      (read_sheet s).code ≡ 0 → length (sheet_bytes (read_sheet s).station) ≡ length s
  pub reads-alike :
      (read_sheet s).code ≡ 0 → read_sheet (sheet_bytes (read_sheet s).station) ≡ read_sheet s
  -- .. byte for byte, where it is of version 2
  pub same_bytes :
      (read_sheet s).code ≡ 0 → version s ≡ 2 → sheet_bytes (read_sheet s).station ≡ s
  pub never-seven : (copied_sheet s buffer).found.code ≢ 7

-- The claims: of every station that code can hold, of every accepted sheet, of all bytes; and of
-- every buffer.
abbrev pub EachWritten : Type 0
EachWritten =
    (st : Station) → TypedStation st → (buffer : List ℕ)
    → WriterLaws st buffer (written_sheet st buffer)

abbrev pub EachWrittenAgain : Type 0
EachWrittenAgain =
    (s : List ℕ) → Bytes s → (read_sheet s).code ≡ 0 → (buffer : List ℕ)
    → SheetLaws s buffer (written_sheet (read_sheet s).station buffer)

abbrev pub EachCopied : Type 0
EachCopied = (s : List ℕ) → Bytes s → (buffer : List ℕ) → CopyLaws s buffer
