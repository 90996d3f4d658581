-- A header without a fault, taken apart.
use mathlib.Core.Bool.{Bool, true, false, cond, not, and-eq-true_iff}
use mathlib.Core.List.{List}
use mathlib.Core.Path.{◌≡◌, refl}
use Prim.Native.Nat.{ℕ, ◌≤◌}
use native.Mathlib.Omega.{arith}
use borrow.Author.Tests.{leb-true}
use lib.Dec.{ltb, leb}
use lib.ListN.{length}
use Rattle.layout.specs.Layout.{has_mark, version, version_kept, count_p, count_r, count_z}
use Rattle.layout.specs.Layout.{within_limits, counts_kept, length_kept, header_number}
use Rattle.layout.proofs.Joined.{four}

-- each test of a header without a fault passes
pub no-fault :
    (s : List ℕ) → header_number s ≡ 0 →
    (has_mark s ≡ true)
    × (version_kept (version s) ≡ true)
    × (counts_kept (count_p s) (count_r s) (count_z s) ≡ true)
    × (length_kept s ≡ true)
unfolding header_number
no-fault s h =
    let counts = counts_kept (count_p s) (count_r s) (count_z s) in
    go (ltb (length s) 8) (has_mark s) (version_kept (version s)) counts (length_kept s) h
  where
    number : Bool → Bool → Bool → Bool → Bool → ℕ
    number a b c d e =
        cond a 1 (cond (not b) 2 (cond (not c) 3 (cond (not d) 4 (cond (not e) 1 0))))

    go :
        (a b c d e : Bool) → number a b c d e ≡ 0 →
        (b ≡ true) × (c ≡ true) × (d ≡ true) × (e ≡ true)
    go false true true true true h = (refl, refl, refl, refl)
    go false true true true false h = absurd (omega arith)
    go false true true false e h = absurd (omega arith)
    go false true false d e h = absurd (omega arith)
    go false false c d e h = absurd (omega arith)
    go true b c d e h = absurd (omega arith)

-- "P of turnouts (1 to 64), R of routes (0 to 64), Z of zones (1 to 8)"
pub in-range :
    (p r z : ℕ) → counts_kept p r z ≡ true →
    (1 ≤ p) × (p ≤ 64) × (r ≤ 64) × (1 ≤ z) × (z ≤ 8)
in-range p r z h =
    let kept = four (leb 1 p) (within_limits 64 64 p r) (leb 1 z) (leb z 8) h in
    let limits = (and-eq-true_iff (leb p 64) (leb r 64)).0 kept.1 in (
      leb-true 1 p kept.0,
      leb-true p 64 limits.0,
      leb-true r 64 limits.1,
      leb-true 1 z kept.2,
      leb-true z 8 kept.3,
    )

-- a header's numbers are 0 to 4
pub header-most : (s : List ℕ) → header_number s ≤ 4
unfolding header_number
header-most s =
    let counts = counts_kept (count_p s) (count_r s) (count_z s) in
    go (ltb (length s) 8) (has_mark s) (version_kept (version s)) counts (length_kept s)
  where
    go :
        (a b c d e : Bool) →
        cond a 1 (cond (not b) 2 (cond (not c) 3 (cond (not d) 4 (cond (not e) 1 0)))) ≤ 4
    go true b c d e = omega arith
    go false false c d e = omega arith
    go false true false d e = omega arith
    go false true true false e = omega arith
    go false true true true false = omega arith
    go false true true true true = omega arith
