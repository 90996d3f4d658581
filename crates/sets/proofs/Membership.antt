-- Which turnouts are in the intersection, the union and the difference of two sets, in the set of
-- one turnout, in the empty set and in the set of those that pass a test.
use mathlib.Core.Bool.{Bool, true, false, cond, not, ◌&&◌, ◌||◌, and-true, and-false, or-false}
use mathlib.Core.Path.{◌≡◌, refl, sym, ap, ap₂, ◌∙◌}
use Prim.Native.Nat.{ℕ, zero, suc, ◌/◌, ◌%◌, ◌^◌, ◌≤◌, ◌<◌, zero-le}
use native.Mathlib.Nat.{le_refl, zero-div, div-one, div-eq_of_lt, mod-lt, mul-mod_left}
use native.Mathlib.Nat.{mul-div_cancel, pow-suc, zero-lt-suc, lt_of_lt_of_le}
use native.Mathlib.Numerals.{add-one, one-add}
use native.Mathlib.Omega.{arith}
use borrow.Author.Tests.{eqb-true, eqb-false, lt-ltb, le-ltb, ltb-true, ltb-false}
use lib.Dec.{eqb, ltb, eqb-suc-zero, eqb-zero-suc, eqb-suc-suc}
use lib.Pow.{pow_mono, shr_lt, shr-shr}
use lib.Bits.{bit_and, bit_or, bit_xor, and_shr, or_shr, xor_shr, and_mod, or_mod, xor_mod}
use Rattle.sets.specs.Sets.{has, single, union, without, set_of}

-- the lowest digit is 1: turnout n is in s where s / 2 ^ n is odd
abbrev odd : ℕ → Bool
odd q = eqb (q % 2) 1

-- a digit is 1 or 0, as the test for 1 says
digit : (d : ℕ) → d < 2 → d ≡ cond (eqb d 1) 1 0
digit d h = go (eqb d 1) refl
  where
    go : (b : Bool) → eqb d 1 ≡ b → d ≡ cond b 1 0
    go true e = eqb-true d 1 e
    go false e = let other : (d ≡ 1) → ⊥ = eqb-false d 1 e in omega arith

-- digit n of s is 1 where turnout n is in s, and 0 where not
pub digit-has : (s n : ℕ) → s / 2 ^ n % 2 ≡ cond (has s n) 1 0
unfolding has
digit-has s n = digit (s / 2 ^ n % 2) (mod-lt (s / 2 ^ n) (zero-lt-suc 1))

-- half of a number of k + 1 digits has k
pub half_lt : {s : ℕ} (k : ℕ) → s < 2 ^ suc k → s / 2 < 2 ^ k
half_lt k h = shr_lt k 1 (rw add-one h)

-- the turnouts of s after the first are those of s / 2, one lower
pub has-suc : (s n : ℕ) → has s (suc n) ≡ has (s / 2) n
unfolding has
has-suc s n = ap odd (ap (λ (m : ℕ). s / 2 ^ m) (sym (one-add n)) ∙ sym (shr-shr s 1 n))

-- an operation that works on each digit apart, and a test that says what it gives for the four
-- pairs of digits
module _ (op : ℕ → ℕ → ℕ) (test : Bool → Bool → Bool)
    (shr : (a b k : ℕ) → op a b / 2 ^ k ≡ op (a / 2 ^ k) (b / 2 ^ k))
    (low : (a b k : ℕ) → op a b % 2 ^ k ≡ op (a % 2 ^ k) (b % 2 ^ k))
    (both : eqb (op 1 1) 1 ≡ test true true)
    (left : eqb (op 1 0) 1 ≡ test true false)
    (right : eqb (op 0 1) 1 ≡ test false true)
    (neither : eqb (op 0 0) 1 ≡ test false false) where
  -- the four pairs as one equation
  table : (x y : Bool) → eqb (op (cond x 1 0) (cond y 1 0)) 1 ≡ test x y
  table true true = both
  table true false = left
  table false true = right
  table false false = neither

  -- the members of the result, by the test
  has-op : (a b n : ℕ) → has (op a b) n ≡ test (has a n) (has b n)
  unfolding has
  has-op a b n =
      ap odd (shr a b n) ∙ ap (λ (d : ℕ). eqb d 1) (low (a / 2 ^ n) (b / 2 ^ n) 1)
      ∙ ap₂ (λ (x y : ℕ). eqb (op x y) 1) (digit-has a n) (digit-has b n)
      ∙ table (has a n) (has b n)

-- in a & b: in a and in b
pub has-and : (a b n : ℕ) → has (bit_and a b) n ≡ (has a n && has b n)
has-and = has-op bit_and ◌&&◌ and_shr and_mod refl refl refl refl

-- in a | b: in a or in b
pub has-or : (a b n : ℕ) → has (bit_or a b) n ≡ (has a n || has b n)
has-or = has-op bit_or ◌||◌ or_shr or_mod refl refl refl refl

-- in the difference: in a and not in b
pub has-without : (a b n : ℕ) → has (without a b) n ≡ (has a n && not (has b n))
has-without =
    has-op without (λ x y. x && not y)
    (λ a b k. xor_shr a (bit_and a b) k ∙ ap (bit_xor (a / 2 ^ k)) (and_shr a b k))
    (λ a b k. xor_mod a (bit_and a b) k ∙ ap (bit_xor (a % 2 ^ k)) (and_mod a b k))
    refl
    refl
    refl
    refl

-- nothing is in the empty set
pub has-zero : (n : ℕ) → has 0 n ≡ false
unfolding has
has-zero n = ap odd (zero-div (2 ^ n))

-- the word 2 ^ k has the turnout k alone
has-power : (k n : ℕ) → has (2 ^ k) n ≡ eqb n k
unfolding has
has-power zero zero = refl
has-power zero (suc n) = has-suc 1 n ∙ has-zero n ∙ sym (eqb-suc-zero n)
has-power (suc k) zero =
    ap odd (div-one (2 ^ suc k) ∙ pow-suc 2 k) ∙ ap (λ (d : ℕ). eqb d 1) (mul-mod_left (2 ^ k) 2)
    ∙ sym (eqb-zero-suc k)
has-power (suc k) (suc n) =
    has-suc (2 ^ suc k) n
    ∙ ap (λ (s : ℕ). has s n)
    (ap (λ (s : ℕ). s / 2) (pow-suc 2 k) ∙ mul-div_cancel (2 ^ k) (zero-lt-suc 1))
    ∙ has-power k n ∙ sym (eqb-suc-suc n k)

-- the word of a turnout alone
pub single-power : (k : ℕ) → k < 64 → single k ≡ 2 ^ k
unfolding single
single-power k h = rw (lt-ltb k 64 h)

-- in the set of k alone: k itself, where k is a turnout's number
pub has-single : (k n : ℕ) → has (single k) n ≡ (ltb k 64 && eqb n k)
unfolding single
has-single k n = go (ltb k 64)
  where
    go : (b : Bool) → has (cond b (2 ^ k) 0) n ≡ (b && eqb n k)
    go true = has-power k n
    go false = has-zero n

-- no number from k on is in a number of k digits
pub has-beyond : (k s n : ℕ) → s < 2 ^ k → k ≤ n → has s n ≡ false
unfolding has
has-beyond k s n h l = ap odd (div-eq_of_lt (lt_of_lt_of_le h (pow_mono l)))

-- no number from 64 on is in a word
pub has-past : (s n : ℕ) → s < 2 ^ 64 → 64 ≤ n → has s n ≡ false
has-past = has-beyond 64

-- in the set of the numbers below n that pass a test: those
pub has-set_of : (p : ℕ → Bool) (n k : ℕ) → n ≤ 64 → has (set_of p n) k ≡ (ltb k n && p k)
unfolding set_of
has-set_of p zero k limit = has-zero k ∙ sym (ap (λ (b : Bool). b && p k) (le-ltb k 0 zero-le))
has-set_of p (suc n) k limit =
    has-or (set_of p n) (cond (p n) (single n) 0) k
    ∙ ap₂ (λ (a b : Bool). a || b) (has-set_of p n k (omega arith)) (here (p n))
    ∙ joined (eqb k n) refl
  where
    here : (b : Bool) → has (cond b (single n) 0) k ≡ (eqb k n && b)
    here true = has-single n k ∙ rw (lt-ltb n 64 limit) (sym (and-true (eqb k n)))
    here false = has-zero k ∙ sym (and-false (eqb k n))

    joined : (b : Bool) → eqb k n ≡ b → (ltb k n && p k || b && p n) ≡ (ltb k (suc n) && p k)
    joined true e =
        let same : k ≡ n = eqb-true k n e in
        rw (same, le-ltb n n (le_refl n), lt-ltb n (suc n) (le_refl (suc n)))
    joined false e = rw or-false (ap (λ (b : Bool). b && p k) (next (ltb k n) refl))
      where
        next : (b : Bool) → ltb k n ≡ b → ltb k n ≡ ltb k (suc n)
        next true l = let below : k < n = ltb-true k n l in l ∙ sym (lt-ltb k (suc n) (omega arith))
        next false l =
            let other : k ≡ n → ⊥ = eqb-false k n e in
            let past : n ≤ k = ltb-false k n l in
            l ∙ sym (le-ltb k (suc n) (omega arith))

-- equal tests give equal sets
pub set_same :
    (p q : ℕ → Bool) (n : ℕ) → ((k : ℕ) → k < n → p k ≡ q k) → set_of p n ≡ set_of q n
unfolding set_of
set_same p q zero e = refl
set_same p q (suc n) e =
    ap₂ (λ (s : ℕ) (b : Bool). union s (cond b (single n) 0))
    (set_same p q n (λ k l. e k (omega arith)))
    (e n (le_refl (suc n)))
