-- Tests on a range of numbers, one number further: what a loop over the range needs; and what it
-- means that all pass, or none.
use mathlib.Core.Bool.{Bool, true, false, cond, not, ◌&&◌, and-eq-true_iff}
use mathlib.Core.Path.{◌≡◌, refl, sym, ap, ap₂, ◌∙◌}
use Prim.Native.Nat.{ℕ, zero, suc, ◌+◌, ◌-◌, ◌≤◌, ◌<◌}
use native.Mathlib.Nat.{sub_self, zero-add, add-zero, le_of_suc-le-suc, not-suc-le-zero}
use native.Mathlib.Omega.{arith}
use borrow.Author.Tests.{le-ltb}
use lib.Dec.{ltb}
use Rattle.sets.specs.Range.{first_from, all_from}

-- what is left of a range, counted by its next number
left : (i n : ℕ) → i < n → n - i ≡ suc (n - (i + 1))
left i n h = omega arith

-- a number of a range, counted from its second number
from_next : (i j : ℕ) → i + suc j ≡ i + 1 + j
from_next i j = omega arith

module _ (p : ℕ → Bool) where
  pub first_next :
      (i n : ℕ) → i < n → first_from p i (n - i) ≡ cond (p i) i (first_from p (i + 1) (n - (i + 1)))
  unfolding first_from
  first_next i n h = ap (first_from p i) (left i n h)

  pub first-end : (n : ℕ) → first_from p n (n - n) ≡ n
  unfolding first_from
  first-end n = ap (first_from p n) (sub_self n)

  pub all-next : (i n : ℕ) → i < n → all_from p i (n - i) ≡ (p i && all_from p (i + 1) (n - (i + 1)))
  unfolding all_from
  all-next i n h = ap (all_from p i) (left i n h)

  pub all_end : (n : ℕ) → all_from p n (n - n) ≡ true
  unfolding all_from
  all_end n = ap (all_from p n) (sub_self n)

  -- where all pass, each does
  pub all-at : (i k : ℕ) → all_from p i k ≡ true → (j : ℕ) → j < k → p (i + j) ≡ true
  unfolding all_from
  all-at i zero h j l = absurd (not-suc-le-zero l)
  all-at i (suc k) h zero l =
      ap p (add-zero i) ∙ ((and-eq-true_iff (p i) (all_from p (i + 1) k)).0 h).0
  all-at i (suc k) h (suc j) l =
      ap p (from_next i j)
      ∙ all-at (i + 1) k ((and-eq-true_iff (p i) (all_from p (i + 1) k)).0 h).1 j
      (le_of_suc-le-suc l)

  -- of the numbers below k
  pub all-below : (k : ℕ) → all_from p 0 k ≡ true → (n : ℕ) → n < k → p n ≡ true
  all-below k h n l = ap p (sym (zero-add n)) ∙ all-at 0 k h n l

  -- where each from i on passes, all do
  pub all-from : (i k : ℕ) → ((n : ℕ) → i ≤ n → p n ≡ true) → all_from p i k ≡ true
  unfolding all_from
  all-from i zero h = refl
  all-from i (suc k) h =
      ap₂ (λ (a b : Bool). a && b) (h i (omega arith))
      (all-from (i + 1) k (λ n l. h n (omega arith)))

  -- where no first one is found, the next does not pass, and none is found after it
  first-later :
      (i k : ℕ) → i + suc k ≤ first_from p i (suc k) →
      (p i ≡ false) × (i + 1 + k ≤ first_from p (i + 1) k)
  unfolding first_from
  first-later i k h = go (p i) refl h
    where
      go :
          (b : Bool) → p i ≡ b → i + suc k ≤ cond b i (first_from p (i + 1) k) →
          (p i ≡ false) × (i + 1 + k ≤ first_from p (i + 1) k)
      go true e h = absurd (omega arith)
      go false e h = (e, rw (from_next i k) at h)

  -- where no first one is found, none passes
  pub first-none : (i k : ℕ) → i + k ≤ first_from p i k → (j : ℕ) → j < k → p (i + j) ≡ false
  first-none i zero h j l = absurd (not-suc-le-zero l)
  first-none i (suc k) h zero l = ap p (add-zero i) ∙ (first-later i k h).0
  first-none i (suc k) h (suc j) l =
      ap p (from_next i j) ∙ first-none (i + 1) k (first-later i k h).1 j (le_of_suc-le-suc l)

  -- of the numbers below k
  pub none_below : (k : ℕ) → k ≤ first_from p 0 k → (n : ℕ) → n < k → p n ≡ false
  none_below k h n l = ap p (sym (zero-add n)) ∙ first-none 0 k (rw (zero-add k) h) n l

-- tests that agree on a range
module _ (p q : ℕ → Bool) where
  all-same-from :
      (i k : ℕ) → ((j : ℕ) → i ≤ j → j < i + k → p j ≡ q j) → all_from p i k ≡ all_from q i k
  unfolding all_from
  all-same-from i zero h = refl
  all-same-from i (suc k) h =
      ap₂ (λ (a b : Bool). a && b) (h i (omega arith) (omega arith))
      (all-same-from (i + 1) k (λ j l m. h j (omega arith) (omega arith)))

  -- of the numbers below k
  pub all_same : (k : ℕ) → ((j : ℕ) → j < k → p j ≡ q j) → all_from p 0 k ≡ all_from q 0 k
  all_same k h = all-same-from 0 k (λ j l m. h j (omega arith))

-- where none is bad, the search for a bad one ends at the count
all-good :
    (good : ℕ → Bool) (i k : ℕ) → ((n : ℕ) → n < i + k → good n ≡ true) →
    first_from (λ n. not (good n)) i k ≡ i + k
unfolding first_from
all-good good i zero h = omega arith
all-good good i (suc k) h =
    let later : first_from (λ n. not (good n)) (i + 1) k ≡ i + suc k =
    all-good good (i + 1) k (λ n l. h n (omega arith)) ∙ omega arith in
    ap (λ (b : Bool). cond (not b) i (first_from (λ n. not (good n)) (i + 1) k)) (h i (omega arith))
    ∙ later

pub not_found :
    (good : ℕ → Bool) (k : ℕ) → ((n : ℕ) → n < k → good n ≡ true) →
    ltb (first_from (λ n. not (good n)) 0 k) k ≡ false
not_found good k h =
    let at : first_from (λ n. not (good n)) 0 k ≡ 0 + k =
    all-good good 0 k (λ n l. h n (omega arith)) in
    le-ltb (first_from (λ n. not (good n)) 0 k) k (omega (arith, at))
