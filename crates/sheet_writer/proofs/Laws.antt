-- The laws of the writer: each sentence of WRITE-1 to WRITE-5 (docs/RULES.md), from the definition
-- and from the two inverse laws of a sheet's bytes.
use mathlib.Core.Bool.{Bool, true, false, cond, false≢true}
use mathlib.Core.List.{List, ◌++◌}
use mathlib.Core.Path.{◌≡◌, refl, sym, ap, ◌∙◌}
use Prim.Native.Nat.{ℕ, ◌+◌, ◌≤◌, ◌<◌}
use native.Mathlib.Omega.{arith}
use borrow.Author.Tests.{eq-eqb}
use borrow.Author.Tests.{lt-ltb, le-ltb, ltb-true, ltb-false}
use lib.Dec.{eqb, ltb}
use lib.ListN.{length, take, drop}
use lib.Seq.{sets, sets-eq, take_at, drop_at}
use Rattle.bigendian.specs.BigEndian.{Bytes}
use Rattle.bigendian.proofs.Places.{sets-whole}
use Rattle.station.specs.declared.Station.{Station}
use Rattle.layout.specs.Layout.{header_number, version, station_in}
use Rattle.sheet.specs.Sheet.{Sheet}
use Rattle.partner_records.specs.PartnerRecords.{renumbered}
use Rattle.sheet.specs.Sheet.{read_sheet, meant}
use Rattle.layout.proofs.Counts.{counts-kept}
use Rattle.sheet.proofs.Accepted.{headed, station-of, accepted-whole, passes, fixed}
use Rattle.sheet_bytes.specs.SheetBytes.{sheet_bytes}
use Rattle.sheet_bytes.specs.Typed.{TypedStation}
use Rattle.sheet_bytes.proofs.Header.{sheet-length, header-kept, written-version, faultless}
use Rattle.sheet_bytes.proofs.Inverse.{station-of-bytes, bytes-of-station}
use Rattle.sheet_bytes.proofs.Typed.{bytes-of-sheet}
use Rattle.sheet_writer.specs.Writer.{described, length_of}
use Rattle.sheet_writer.specs.Writer.{SheetWritten, written_sheet}
use Rattle.sheet_writer.specs.Laws.{Describes, WriterLaws, EachWritten}
use Rattle.sheet_writer.specs.Laws.{EachWrittenAgain}
use Rattle.sheet_writer.proofs.Described.{described-passes, passed-described}
use Rattle.sheet_writer.proofs.ReadTyped.{read-typed}

-- the bytes of a described station's sheet read as that station
read_back :
    (st : Station) → TypedStation st → described st ≡ true → Describes (sheet_bytes st) st
unfolding read_sheet
read_back st fits d =
    let h = described-passes st fits d in
    let counts = h.counts in
    let header = header-kept st (counts-kept st counts) in
    let same =
    station-of-bytes st fits counts.turnouts-limit counts.routes-limit
    h.past-turnouts h.past-routes in
    record {
      bytes = bytes-of-sheet st fits;
      reads =
          rw (eq-eqb (header_number (sheet_bytes st)) 0 header, written-version st, same) (fixed st h);
    }

-- a station that some sheet describes is described
reads-described : (st : Station) (s : List ℕ) → Describes s st → described st ≡ true
reads-described st s d =
    let accepted : (read_sheet s).code ≡ 0 = ap (λ (a : Sheet). a.code) d.reads in
    let same : (read_sheet s).station ≡ st = ap (λ (a : Sheet). a.station) d.reads in
    ap described (sym same) ∙ passed-described (read_sheet s).station (passes s accepted)

-- the three answers
module _ (st : Station) (buffer : List ℕ) where
  seven : described st ≡ false → written_sheet st buffer ≡ record { code = 7; bytes = buffer }
  unfolding written_sheet
  seven d = rw d

  pub eight :
      described st ≡ true → length buffer < length_of st
      → written_sheet st buffer ≡ record { code = 8; bytes = buffer }
  unfolding written_sheet
  eight d short = rw (d, lt-ltb (length buffer) (length_of st) short)

  pub stored :
      described st ≡ true → length_of st ≤ length buffer
      → written_sheet st buffer ≡ record { code = 0; bytes = sets buffer 0 (sheet_bytes st) }
  unfolding written_sheet
  stored d room = rw (d, le-ltb (length buffer) (length_of st) room)

-- bytes stored at the start of a buffer that holds them: the first of them, and the rest
module _ (buffer bs : List ℕ) (n : ℕ) (whole : length bs ≡ n) (room : n ≤ length buffer) where
  apart : sets buffer 0 bs ≡ bs ++ drop n buffer
  apart =
      let fits : 0 + length bs ≤ length buffer = omega (arith, whole, room) in
      let place : 0 + length bs ≡ n = omega (arith, whole) in
      sets-eq bs buffer 0 fits ∙ ap (λ (k : ℕ). bs ++ drop k buffer) place

  first_part : take n (sets buffer 0 bs) ≡ bs
  first_part = ap (take n) apart ∙ take_at bs (drop n buffer) n whole

  rest_part : drop n (sets buffer 0 bs) ≡ drop n buffer
  rest_part = ap (drop n) apart ∙ drop_at bs (drop n buffer) n whole

-- the length of a described station's sheet
length-described :
    (st : Station) → TypedStation st → described st ≡ true → length (sheet_bytes st) ≡ length_of st
length-described st fits d =
    let counts = (described-passes st fits d).counts in
    sheet-length st counts.turnouts-limit counts.routes-limit

-- the length of an accepted sheet is that of its station's
length-of : (s : List ℕ) (accepted : (read_sheet s).code ≡ 0) → length_of (read_sheet s).station ≡ length s
unfolding station_in renumbered
length-of s accepted =
    let whole = (faultless s (headed s accepted).0).whole in
    rw (station-of s accepted) (go (eqb (version s) 1) whole)
  where
    go :
        (one : Bool) → length s ≡ length_of (station_in s)
        → length_of (cond one (renumbered (station_in s)) (station_in s)) ≡ length s
    go true e = sym e
    go false e = sym e

-- by whether a sheet describes the station, and whether the buffer is long enough
pub writer-laws : EachWritten
writer-laws st fits buffer =
    go (described st) refl (ltb (length buffer) (length_of st)) refl
  where
    go :
        (d : Bool) → described st ≡ d
        → (short : Bool) → ltb (length buffer) (length_of st) ≡ short
        → WriterLaws st buffer (written_sheet st buffer)
    go false d short q =
        let none : (s : List ℕ) → Describes s st → ⊥ =
        λ s h. false≢true (sym d ∙ reads-described st s h) in
        rw (seven st buffer d) record {
          no-sheet = (λ e. none, λ e. refl);
          short-buffer = (λ e. absurd (omega (arith, e)), λ e. absurd (e.0 refl));
          untouched = λ e. refl;
          accepted = λ e f. absurd (e refl);
          reads-back = λ e. absurd (omega (arith, e));
          second-version = λ e. absurd (omega (arith, e));
          past-untouched = λ e. absurd (omega (arith, e));
        }
    go true d true q =
        let less = ltb-true (length buffer) (length_of st) q in
        let some = read_back st fits d in
        rw (eight st buffer d less) record {
          no-sheet = (λ e. absurd (omega (arith, e)), λ e. absurd (e (sheet_bytes st) some));
          short-buffer = (λ e. (λ f. omega (arith, f), less), λ e. refl);
          untouched = λ e. refl;
          accepted = λ e f. absurd (f refl);
          reads-back = λ e. absurd (omega (arith, e));
          second-version = λ e. absurd (omega (arith, e));
          past-untouched = λ e. absurd (omega (arith, e));
        }
    go true d false q =
        let room = ltb-false (length buffer) (length_of st) q in
        let whole = length-described st fits d in
        let some = read_back st fits d in
        let first = first_part buffer (sheet_bytes st) (length_of st) whole room in
        rw (stored st buffer d room) record {
          no-sheet = (λ e. absurd (omega (arith, e)), λ e. absurd (e (sheet_bytes st) some));
          short-buffer = (λ e. absurd (omega (arith, e)), λ e. absurd (omega (arith, room, e.1)));
          untouched = λ e. absurd (e refl);
          accepted = λ e f. refl;
          reads-back = λ e. rw first some;
          second-version = λ e. rw first (written-version st);
          past-untouched = λ e. rest_part buffer (sheet_bytes st) (length_of st) whole room;
        }

-- an accepted sheet: its station is described, and written as many bytes that are read alike
module _ (s : List ℕ) (byte : Bytes s) (accepted : (read_sheet s).code ≡ 0) where
  abbrev st : Station
  st = (read_sheet s).station

  pub station-described : described st ≡ true
  station-described = passed-described st (passes s accepted)

  -- the sheet has the length of its station's
  pub same_length : length_of st ≡ length s
  same_length = length-of s accepted

  pub again-length : length (sheet_bytes st) ≡ length s
  again-length =
      let counts = (passes s accepted).counts in
      sheet-length st counts.turnouts-limit counts.routes-limit ∙ same_length

  -- a sheet of version 2 is its station's
  pub same_bytes : version s ≡ 2 → sheet_bytes st ≡ s
  same_bytes second =
      let other : meant (version s) (station_in s) ≡ station_in s = rw second in
      ap sheet_bytes (station-of s accepted ∙ other)
      ∙ bytes-of-station s byte (headed s accepted).0 second

  pub read_alike : read_sheet (sheet_bytes st) ≡ read_sheet s
  read_alike =
      (read_back st (read-typed s byte accepted) station-described).reads
      ∙ sym (accepted-whole s accepted)

  pub written-again :
      (buffer : List ℕ) → length s ≤ length buffer
      → written_sheet st buffer ≡ record { code = 0; bytes = sets buffer 0 (sheet_bytes st) }
  written-again buffer room = stored st buffer station-described (rw same_length room)

  written_same :
      (buffer : List ℕ) → version s ≡ 2 → length s ≤ length buffer
      → written_sheet st buffer ≡ record { code = 0; bytes = sets buffer 0 s }
  written_same buffer second room =
      written-again buffer room
      ∙ ap (λ (bs : List ℕ). record { code = 0; bytes = sets buffer 0 bs }) (same_bytes second)

pub sheet-laws : EachWrittenAgain
sheet-laws s byte accepted buffer = record {
  byte-for-byte =
      λ second same.
      written_same s byte accepted buffer second (omega (arith, same))
      ∙ ap (λ (bs : List ℕ). record { code = 0; bytes = bs }) (sets-whole buffer s (sym same));
  at-the-start = written_same s byte accepted buffer;
  written = λ room. ap (λ (w : SheetWritten). w.code) (written-again s byte accepted buffer room);
  reads-alike =
      λ room.
      let st = (read_sheet s).station in
      let first = first_part buffer (sheet_bytes st) (length s) (again-length s byte accepted) room in
      ap (λ (w : SheetWritten). read_sheet (take (length s) w.bytes))
      (written-again s byte accepted buffer room)
      ∙ ap read_sheet first
      ∙ read_alike s byte accepted;
}
