-- Counting the turnouts of a set and searching for the lowest give what the machine's instructions
-- give.
use mathlib.Core.Bool.{Bool, true, false, cond}
use mathlib.Core.Path.{◌≡◌, sym, ap, ap₂, ◌∙◌}
use Prim.Native.Nat.{ℕ, zero, suc, ◌+◌, ◌/◌, ◌^◌, ◌≤◌, ◌<◌}
use native.Mathlib.Nat.{add-zero, zero-add, div-one}
use native.Mathlib.Omega.{arith}
use lib.Pow.{shr-shr}
use lib.Arith.{lt-one}
use lib.Count.{ones, ones_step, count_trailing_zeros, trailing_le, under}
use Rattle.sets.specs.Range.{count_from, first_from}
use Rattle.sets.specs.Sets.{has, count, lowest}
use Rattle.sets.proofs.Membership.{half_lt, digit-has}

-- where s has no turnout from i + k on, counting over the k numbers from i gives the ones of s / 2
-- ^ i
count-from : (s k i : ℕ) → s / 2 ^ i < 2 ^ k → count_from (has s) i k ≡ ones (s / 2 ^ i)
unfolding count_from ones
count-from s zero i h = ap ones (sym (lt-one h))
count-from s (suc k) i h =
    let later =
    count-from s k (i + 1) (rw (← shr-shr s i 1) (half_lt k h)) ∙ ap ones (sym (shr-shr s i 1)) in
    ap₂ (λ (d r : ℕ). d + r) (sym (digit-has s i)) later ∙ sym (ones_step (s / 2 ^ i))

-- the count of a word's turnouts is its number of ones
pub count_ones : (s : ℕ) → s < 2 ^ 64 → count s ≡ ones s
unfolding count
count_ones s h = count-from s 64 0 (rw div-one h) ∙ ap ones (div-one s)

-- searching the k numbers from i gives i and the trailing zeros of s / 2 ^ i
first-from : (s k i : ℕ) → first_from (has s) i k ≡ i + count_trailing_zeros k (s / 2 ^ i)
unfolding first_from count_trailing_zeros
first-from s zero i = sym (add-zero i)
first-from s (suc k) i =
    let zeros = count_trailing_zeros k (s / 2 ^ i / 2) in
    let later =
    first-from s k (i + 1) ∙ ap (λ (q : ℕ). i + 1 + count_trailing_zeros k q) (sym (shr-shr s i 1)) in
    here (has s i) zeros later ∙ ap (λ (d : ℕ). i + under d zeros) (sym (digit-has s i))
  where
    here : {r : ℕ} (b : Bool) (t : ℕ) → r ≡ i + 1 + t → cond b i r ≡ i + under (cond b 1 0) t
    here true t e = sym (add-zero i)
    here false t e = omega arith

-- a word's lowest turnout is its number of trailing zeros, 64 where it is empty
pub lowest-zeros : (s : ℕ) → lowest s ≡ count_trailing_zeros 64 s
unfolding lowest
lowest-zeros s =
    first-from s 64 0 ∙ zero-add (count_trailing_zeros 64 (s / 2 ^ 0)) ∙ ap (count_trailing_zeros 64) (div-one s)

-- searching ends at 64
pub lowest-at-most : (s : ℕ) → lowest s ≤ 64
lowest-at-most s = rw (lowest-zeros s) (trailing_le 64 s)
