-- The writer of station sheets: WRITE-1 to WRITE-5 (docs/RULES.md).
use Rattle.std.specs.Prelude.{Bool, cond, not, ◌&&◌, List, ℕ, eqb, ltb, length}
use Rattle.std.proofs.lemmas.List.Edits.{sets}
use Rattle.station.specs.declared.Station.{Station}
use Rattle.layout.specs.Layout.{counts_kept, sheet_length}
use Rattle.sheet.specs.Sheet.{Finding}
use Rattle.sheet.specs.Sheet.{judged, read_sheet, finding_of}
use Rattle.sheet_bytes.specs.SheetBytes.{sheet_bytes}
use Rattle.sheet_writer.specs.Past.{turnouts_end, routes_end}

-- WRITE-3: some sheet describes the station, as it stands: it is one that the reader gives with 0, from
-- a sheet of either version. Its counts are in range, it is judged good by the rules of version 2, and
-- nothing stands past P and R. No count is read as its limit here.
unfoldable pub described : Station → Bool
described st =
    counts_kept st.turnouts st.routes st.zones
    && eqb (judged st).code 0
    && turnouts_end st.turnouts st.turnout
    && routes_end st.routes st.route

-- the length of a station's sheet
abbrev pub length_of : Station → ℕ
length_of st = sheet_length st.turnouts st.routes

-- the answer of writing a sheet: the number, and the whole buffer
pub record SheetWritten : Type 0 where
  pub code : ℕ
  pub bytes : List ℕ

-- WRITE-3, WRITE-4: "Turned away: 7, a station that, as it stands, no sheet describes; then 8, a
-- buffer shorter than the sheet; both after nothing else, with the buffer untouched." Otherwise the
-- sheet's bytes stand at the start of the buffer; WRITE-1: "Bytes past the sheet's length are
-- untouched."
unfoldable pub written_sheet : Station → List ℕ → SheetWritten
written_sheet st buffer =
    cond (not (described st)) (record { code = 7; bytes = buffer })
    (cond (ltb (length buffer) (length_of st)) (record { code = 8; bytes = buffer })
    (record { code = 0; bytes = sets buffer 0 (sheet_bytes st) }))

-- the answer of copying a sheet: the number, the index of the bad record for 5 and 6 (else 0), and
-- the whole buffer
pub record SheetCopied : Type 0 where
  pub found : Finding
  pub bytes : List ℕ

-- WRITE-5, the house's call for those to whom a station does not cross: a sheet of either version, read
-- and written into a buffer, in version 2. The sheet's own number and index, with the buffer untouched;
-- else what writing its station gives.
unfoldable pub copied_sheet : List ℕ → List ℕ → SheetCopied
copied_sheet sheet buffer =
    let a = read_sheet sheet in
    let w = written_sheet a.station buffer in
    cond (eqb a.code 0)
    (record { found = record { code = w.code; index = 0 }; bytes = w.bytes })
    (record { found = finding_of a; bytes = buffer })
