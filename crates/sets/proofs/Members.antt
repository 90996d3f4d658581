-- A set by its members: what the tests on whole words say of the turnouts, one by one.
use mathlib.Core.Bool.{Bool, true, false, cond, not, ◌&&◌, and-eq-true_iff, false≢true}
use mathlib.Core.Logic.{◌↔◌}
use mathlib.Core.Path.{◌≡◌, refl, sym, ap, ap₂, ◌∙◌}
use Prim.Native.Nat.{ℕ, zero, suc, ◌+◌, ◌-◌, ◌*◌, ◌/◌, ◌%◌, ◌^◌, ◌<◌, suc-le-suc, ◌≤◌}
use native.Mathlib.Nat.{pow-suc, lt_of_lt_of_le, zero-lt-suc, div-one, div-add-mod', lt_of_le_of_lt}
use native.Mathlib.Omega.{arith}
use borrow.Author.Tests.{eqb-true, eqb-false, eq-eqb, ne_eqb, not-true, not-false, ltb-true}
use borrow.Author.Tests.{ltb-false}
use lib.Dec.{ltb}
use lib.Arith.{lt-one}
use lib.Pow.{pow_mono, pow_pos}
use lib.Bits.{bit_and, and_le_l, mask_lt}
use Rattle.sets.specs.Sets.{has, is_empty, overlaps, within}
use Rattle.sets.proofs.Membership.{half_lt, digit-has, has-suc, has-and, has-zero}
use Rattle.sets.proofs.Membership.{has-beyond}

-- the lowest digit of s is 1 where turnout 0 is in s, and 0 where not
digit-zero : (s : ℕ) → s % 2 ≡ cond (has s 0) 1 0
digit-zero s = rw div-one at (digit-has s 0)

-- two numbers of k digits with the same members are equal
same_digits : (k a b : ℕ) → a < 2 ^ k → b < 2 ^ k → ((n : ℕ) → n < k → has a n ≡ has b n) → a ≡ b
same_digits zero a b ha hb same = lt-one ha ∙ sym (lt-one hb)
same_digits (suc k) a b ha hb same =
    let later : (n : ℕ) → n < k → has (a / 2) n ≡ has (b / 2) n =
    λ n l. sym (has-suc a n) ∙ same (suc n) (suc-le-suc l) ∙ has-suc b n in
    let higher = same_digits k (a / 2) (b / 2) (half_lt k ha) (half_lt k hb) later in
    let first =
    digit-zero a ∙ ap (λ (x : Bool). cond x 1 0) (same 0 (zero-lt-suc k)) ∙ sym (digit-zero b) in
    sym (div-add-mod' a 2) ∙ ap₂ (λ (q d : ℕ). q * 2 + d) higher first ∙ div-add-mod' b 2

-- two words with the same members are the same
pub same-members :
    (a b : ℕ) → a < 2 ^ 64 → b < 2 ^ 64 → ((n : ℕ) → n < 64 → has a n ≡ has b n) → a ≡ b
same-members = same_digits 64

-- a set is empty exactly when it has no member
pub empty-exactly : (s : ℕ) → s < 2 ^ 64 → (is_empty s ≡ true) ↔ ((n : ℕ) → n < 64 → has s n ≡ false)
empty-exactly s h = (
  λ e n l. ap (λ (z : ℕ). has z n) (eqb-true s 0 e) ∙ has-zero n,
  λ none. eq-eqb s 0 (same-members s 0 h (pow_pos 64) (λ n l. none n l ∙ sym (has-zero n))),
)

-- a member of a is in b exactly when it is in both
has_other : (a b n : ℕ) → has a n ≡ true → has b n ≡ has (bit_and a b) n
has_other a b n m = ap (λ (x : Bool). x && has b n) (sym m) ∙ sym (has-and a b n)

-- whether n is in both, by whether it is in a
has_both :
    (a b n : ℕ) (z : Bool) → (has a n ≡ false → false ≡ z) → (has a n ≡ true → has b n ≡ z) →
    has (bit_and a b) n ≡ z
has_both a b n z out member = has-and a b n ∙ go (has a n) out member
  where
    go : (x : Bool) → (x ≡ false → false ≡ z) → (x ≡ true → has b n ≡ z) → (x && has b n) ≡ z
    go true f g = g refl
    go false f g = f refl

-- the common members of two words are a word
both-lt : (a b : ℕ) → a < 2 ^ 64 → bit_and a b < 2 ^ 64
both-lt a b h = lt_of_le_of_lt (and_le_l a b) h

-- a is within b exactly when each member of a is a member of b
pub within-exactly :
    (a b : ℕ) → a < 2 ^ 64 →
    (within a b ≡ true) ↔ ((n : ℕ) → n < 64 → has a n ≡ true → has b n ≡ true)
within-exactly a b h = (
  λ e n l m. has_other a b n m ∙ ap (λ (s : ℕ). has s n) (eqb-true (bit_and a b) a e) ∙ m,
  λ each. eq-eqb (bit_and a b) a
      (same-members (bit_and a b) a (both-lt a b h) h
      (λ n l. has_both a b n (has a n) sym (λ m. each n l m ∙ sym m))),
)

-- a and b do not overlap exactly when no member of a is a member of b
pub disjoint-exactly :
    (a b : ℕ) → a < 2 ^ 64 →
    (overlaps a b ≡ false) ↔ ((n : ℕ) → n < 64 → has a n ≡ true → has b n ≡ false)
disjoint-exactly a b h =
    let none = empty-exactly (bit_and a b) (both-lt a b h) in (
      λ e n l m. has_other a b n m ∙ none.0 (not-false (is_empty (bit_and a b)) e) n l,
      λ apart. ap not (none.1 (λ n l. has_both a b n false (λ _. refl) (apart n l))),
    )

-- a number of k digits that is not empty has a member
some-member : (k s : ℕ) → s < 2 ^ k → is_empty s ≡ false → (n : ℕ) × (n < k) × (has s n ≡ true)
some-member zero s h e = absurd (eqb-false s 0 e (lt-one h))
some-member (suc k) s h e = go (has s 0) refl (some-member k (s / 2) (half_lt k h))
  where
    go :
        (b : Bool) → has s 0 ≡ b →
        (is_empty (s / 2) ≡ false → (n : ℕ) × (n < k) × (has (s / 2) n ≡ true))
        → (n : ℕ) × (n < suc k) × (has s n ≡ true)
    go true m later = (0, zero-lt-suc k, m)
    go false m later =
        let even : s % 2 ≡ 0 = digit-zero s ∙ ap (λ (x : Bool). cond x 1 0) m in
        let higher = later (ne_eqb (s / 2) 0 (λ (z : s / 2 ≡ 0). eqb-false s 0 e (omega arith))) in
        (suc higher.0, suc-le-suc higher.1, has-suc s higher.0 ∙ higher.2)

-- where a and b overlap, some turnout is in both
pub overlap-member :
    (a b : ℕ) → a < 2 ^ 64 → overlaps a b ≡ true →
    (n : ℕ) × (n < 64) × (has a n ≡ true) × (has b n ≡ true)
overlap-member a b h e =
    let m = some-member 64 (bit_and a b) (both-lt a b h) (not-true (is_empty (bit_and a b)) e) in
    let both = (and-eq-true_iff (has a m.0) (has b m.0)).0 (sym (has-and a b m.0) ∙ m.2) in
    (m.0, m.1, both.0, both.1)

-- what lies among the numbers below k has no other member
pub among_below : (k s n : ℕ) → within s (2 ^ k - 1) ≡ true → has s n ≡ true → n < k
among_below k s n e m = go (ltb n k) refl
  where
    small : s < 2 ^ k
    small = rw (eqb-true (bit_and s (2 ^ k - 1)) s e) at (mask_lt s k)

    go : (b : Bool) → ltb n k ≡ b → n < k
    go true q = ltb-true n k q
    go false q = absurd (false≢true (sym (has-beyond k s n small (ltb-false n k q)) ∙ m))

-- for all numbers, words or not: a member of a set is a member of any set that the first is within
pub within-member : (a b n : ℕ) → within a b ≡ true → has a n ≡ true → has b n ≡ true
within-member a b n e m =
    has_other a b n m ∙ ap (λ (s : ℕ). has s n) (eqb-true (bit_and a b) a e) ∙ m

-- and no member of a set that does not overlap it
pub disjoint-member : (a b n : ℕ) → overlaps a b ≡ false → has a n ≡ true → has b n ≡ false
disjoint-member a b n e m =
    has_other a b n m
    ∙ ap (λ (s : ℕ). has s n) (eqb-true (bit_and a b) 0 (not-false (is_empty (bit_and a b)) e))
    ∙ has-zero n

-- a number is below the power of two of itself, so it has as many digits at most
below_power : (n : ℕ) → n < 2 ^ n
below_power zero = pow_pos 0
below_power (suc n) =
    let h : n < 2 ^ n = below_power n in
    rw (pow-suc 2 n) (omega arith)

-- two numbers with the same members are the same
pub same-all : (a b : ℕ) → ((n : ℕ) → has a n ≡ has b n) → a ≡ b
same-all a b same =
    let k : ℕ = a + b in
    let wide : (n : ℕ) → n ≤ k → n < 2 ^ k = λ n l. lt_of_lt_of_le (below_power n) (pow_mono l) in
    same_digits k a b (wide a (omega arith)) (wide b (omega arith)) (λ n l. same n)

-- a set is within another where each member of it is one of the other
pub within_all : (a b : ℕ) → ((n : ℕ) → has a n ≡ true → has b n ≡ true) → within a b ≡ true
within_all a b each =
    eq-eqb (bit_and a b) a
    (same-all (bit_and a b) a (λ n. has_both a b n (has a n) sym (λ m. each n m ∙ sym m)))

-- a set is empty where it has no member
pub empty-all : (s : ℕ) → ((n : ℕ) → has s n ≡ false) → is_empty s ≡ true
empty-all s none = eq-eqb s 0 (same-all s 0 (λ n. none n ∙ sym (has-zero n)))
