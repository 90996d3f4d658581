-- Every value of a packed answer comes back where it is below 256; a record's place needs that of
-- the code alone.
use mathlib.Core.Bool.{Bool, true, false}
use mathlib.Core.Path.{◌≡◌, refl, sym, ap, ◌∙◌}
use Prim.Native.Nat.{ℕ, ◌+◌, ◌*◌, ◌<◌}
use native.Mathlib.Omega.{arith}
use native.Mathlib.Nat.{zero-add, div-eq_of_lt, mod-eq_of_lt}
use lib.Dec.{eqb}
use borrow.Author.Tests.{eqb-true, eq-eqb}
use Rattle.packing.specs.Bytes.{above, byte_of}
use Rattle.packing.proofs.Bytes.{lowest-byte, above-next, two_bytes}
use Rattle.sheet.specs.Sheet.{Finding}
use Rattle.journal.specs.Journal.{record_place}
use Rattle.works_desk_journal.specs.Packed.{record_packed}
use Rattle.works_desk_journal.specs.Unpacked.{FindingBytes, RecordBytes}

pub finding-bytes : (f : Finding) → f.code < 256 → f.index < 256 → FindingBytes f
finding-bytes f Code-fits index-fits =
    let both = two_bytes f.code f.index Code-fits index-fits in
    record { code-byte = both.low_byte; index-byte = both.next-byte }

-- a record's place stands above the code 0
place-packed : (code n : ℕ) → code ≡ 0 → record_packed code n ≡ 0 + 256 * record_place n
place-packed code n none = rw (eq-eqb code 0 none, zero-add (256 * record_place n))

pub record-bytes : (code n : ℕ) → code < 256 → RecordBytes code n
unfolding above
record-bytes code n fits = record {
  code-byte = go (eqb code 0) refl;
  place-above = placed;
  none_above = λ other. rw (other, div-eq_of_lt fits);
}
  where
    go : (b : Bool) → eqb code 0 ≡ b → byte_of 0 (record_packed code n) ≡ code
    go true p =
        let none = eqb-true code 0 p in
        let zero-fits : 0 < 256 = omega arith in
        ap (byte_of 0) (place-packed code n none)
        ∙ lowest-byte 0 (record_place n) zero-fits
        ∙ sym none
    go false p = rw (p, mod-eq_of_lt fits)

    placed : code ≡ 0 → above 1 (record_packed code n) ≡ record_place n
    placed none =
        let zero-fits : 0 < 256 = omega arith in
        ap (above 1) (place-packed code n none) ∙ above-next 0 0 (record_place n) zero-fits
