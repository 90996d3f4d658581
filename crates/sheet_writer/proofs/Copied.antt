-- A sheet of either version, copied: WRITE-5 (docs/RULES.md).
use mathlib.Core.Bool.{Bool, true, false}
use mathlib.Core.List.{List}
use mathlib.Core.Logic.{◌≢◌}
use mathlib.Core.Path.{◌≡◌, refl, sym, ap, ◌∙◌}
use Prim.Native.Nat.{ℕ, ◌≤◌, ◌<◌}
use native.Mathlib.Omega.{arith}
use borrow.Author.Tests.{eqb-true, eqb-false, eq-eqb, ne_eqb, ltb-true, ltb-false}
use lib.Dec.{eqb, ltb}
use lib.ListN.{length}
use lib.Seq.{sets}
use Rattle.sheet.specs.Sheet.{read_sheet, finding_of}
use Rattle.sheet.proofs.Judging.{code-most}
use Rattle.sheet_bytes.specs.SheetBytes.{sheet_bytes}
use Rattle.sheet_writer.specs.Writer.{length_of}
use Rattle.sheet_writer.specs.Writer.{SheetWritten, written_sheet, SheetCopied, copied_sheet}
use Rattle.sheet_writer.specs.Laws.{copy_answer, EachCopied}
use Rattle.sheet_writer.proofs.Laws.{eight, station-described, same_length, again-length}
use Rattle.sheet_writer.proofs.Laws.{same_bytes, read_alike, written-again}

-- the copy of an accepted sheet is what writing gives
copied-written :
    (s buffer : List ℕ) → (read_sheet s).code ≡ 0
    → (w : SheetWritten) → written_sheet (read_sheet s).station buffer ≡ w
    → copied_sheet s buffer ≡ copy_answer w.code w.bytes
unfolding copied_sheet
copied-written s buffer accepted w e = rw (eq-eqb (read_sheet s).code 0 accepted, e)

pub copy-laws : EachCopied
unfolding copied_sheet
copy-laws s byte buffer = record {
  refused = refused;
  short-buffer = short-buffer;
  copied = copied;
  same_length = again-length s byte;
  reads-alike = read_alike s byte;
  same_bytes = same_bytes s byte;
  never-seven = go (eqb (read_sheet s).code 0) refl (ltb (length buffer) (length s)) refl;
}
  where
    refused :
        (read_sheet s).code ≢ 0
        → copied_sheet s buffer ≡ record { found = finding_of (read_sheet s); bytes = buffer }
    refused e = rw (ne_eqb (read_sheet s).code 0 e)

    short-buffer :
        (read_sheet s).code ≡ 0 → length buffer < length s
        → copied_sheet s buffer ≡ copy_answer 8 buffer
    short-buffer accepted less =
        let st = (read_sheet s).station in
        let short : length buffer < length_of st = rw (same_length s byte accepted) less in
        let answer = eight st buffer (station-described s byte accepted) short in
        rw (copied-written s buffer accepted (record { code = 8; bytes = buffer }) answer)

    copied :
        (read_sheet s).code ≡ 0 → length s ≤ length buffer
        → copied_sheet s buffer ≡ copy_answer 0 (sets buffer 0 (sheet_bytes (read_sheet s).station))
    copied accepted room =
        let bs = sheet_bytes (read_sheet s).station in
        let w : SheetWritten = record { code = 0; bytes = sets buffer 0 bs } in
        rw (copied-written s buffer accepted w (written-again s byte accepted buffer room))

    number : SheetCopied → ℕ
    number a = a.found.code

    go :
        (good : Bool) → eqb (read_sheet s).code 0 ≡ good
        → (short : Bool) → ltb (length buffer) (length s) ≡ short
        → number (copied_sheet s buffer) ≢ 7
    go false g short q e =
        let most = code-most s in
        let told = ap number (refused (eqb-false (read_sheet s).code 0 g)) in
        omega (arith, most, sym told ∙ e)
    go true g true q e =
        let less = ltb-true (length buffer) (length s) q in
        let told = ap number (short-buffer (eqb-true (read_sheet s).code 0 g) less) in
        omega (arith, sym told ∙ e)
    go true g false q e =
        let room = ltb-false (length buffer) (length s) q in
        let told = ap number (copied (eqb-true (read_sheet s).code 0 g) room) in
        omega (arith, sym told ∙ e)
