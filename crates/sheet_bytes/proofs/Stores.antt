-- Storing record by record: what is still to be stored, one record further.
use mathlib.Core.List.{List}
use mathlib.Core.Path.{◌≡◌, ap, ◌∙◌}
use Prim.Native.Nat.{ℕ, suc, ◌+◌, ◌*◌, ◌-◌, ◌≤◌, ◌<◌}
use native.Mathlib.Nat.{mul-zero, mul-suc, add-zero, add_assoc, sub-zero}
use native.Mathlib.Numerals.{add-one}
use native.Mathlib.Omega.{arith}
use lib.ListN.{length}
use lib.Seq.{sets}
use Rattle.bigendian.proofs.Places.{sets-append}
use Rattle.sheet_bytes.specs.SheetBytes.{records_from}

-- s with the records from i up to n stored: records of w bytes, record 0 at the place `first`
abbrev pub with_rest : (ℕ → List ℕ) → ℕ → ℕ → ℕ → ℕ → List ℕ → List ℕ
with_rest f w first n i s = sets s (first + w * i) (records_from f i (n - i))

pub rest_all :
    (f : ℕ → List ℕ) (w first n : ℕ) (s : List ℕ) →
    with_rest f w first n 0 s ≡ sets s first (records_from f 0 n)
rest_all f w first n s = rw (mul-zero w, add-zero first, sub-zero n)

-- one record, then those after it
pub rest-next :
    (f : ℕ → List ℕ) (w first n i : ℕ) (s : List ℕ) →
    length (f i) ≡ w →
    i < n →
    with_rest f w first n i s ≡ with_rest f w first n (i + 1) (sets s (first + w * i) (f i))
unfolding records_from
rest-next f w first n i s width more =
    let at = first + w * i in
    let rest = records_from f (i + 1) (n - (i + 1)) in
    let left : n - i ≡ suc (n - (i + 1)) = omega arith in
    let place : at + length (f i) ≡ first + w * (i + 1) =
    rw (width, add-one i, mul-suc w i, add_assoc first (w * i) w) in
    ap (λ (m : ℕ). sets s at (records_from f i m)) left
    ∙ sets-append s at (f i) rest
    ∙ ap (λ (p : ℕ). sets (sets s at (f i)) p rest) place

pub rest-none :
    (f : ℕ → List ℕ) (w first n i : ℕ) (s : List ℕ) →
    n ≤ i →
    with_rest f w first n i s ≡ s
unfolding records_from
rest-none f w first n i s ended =
    let none : n - i ≡ 0 = omega arith in
    ap (λ (m : ℕ). sets s (first + w * i) (records_from f i m)) none
