-- Sums over the numbers below a limit, and how many of them pass a test.
use mathlib.Core.Bool.{Bool, true, false, cond, ◌&&◌}
use mathlib.Core.Logic.{◌≢◌}
use mathlib.Core.Path.{◌≡◌, refl, sym, ap, ap₂, ◌∙◌}
use Prim.Native.Nat.{ℕ, zero, suc, ◌+◌, ◌≤◌, ◌<◌, zero-le}
use native.Mathlib.Nat.{add-zero, zero-add, add_assoc, le_refl, not-suc-le-zero}
use native.Mathlib.Numerals.{add-one}
use native.Mathlib.Omega.{arith}
use borrow.Author.Tests.{eqb-true, eqb-false, lt-ltb, le-ltb, ltb-true, ltb-false}
use lib.Dec.{eqb, ltb}
use Rattle.sets.specs.Range.{count_from}

-- the sum of f at the numbers below m
unfoldable pub total : (ℕ → ℕ) → ℕ → ℕ
total f zero = 0
total f (suc m) = total f m + f m

-- 1 where a test holds
abbrev pub bit : Bool → ℕ
bit b = cond b 1 0

-- counting one number more
count_next : (p : ℕ → Bool) (i k : ℕ) → count_from p i (suc k) ≡ count_from p i k + bit (p (i + k))
unfolding count_from
count_next p i zero = ap (λ (j : ℕ). bit (p j) + 0) (sym (add-zero i)) ∙ omega arith
count_next p i (suc k) =
    let later = count_next p (i + 1) k in
    let place : i + 1 + k ≡ i + suc k = omega arith in
    ap (λ (a : ℕ). bit (p i) + a) (later ∙ ap (λ (j : ℕ). count_from p (i + 1) k + bit (p j)) place)
    ∙ sym (add_assoc (bit (p i)) (count_from p (i + 1) k) (bit (p (i + suc k))))

pub count-more : (p : ℕ → Bool) (i : ℕ) → count_from p 0 (i + 1) ≡ count_from p 0 i + bit (p i)
count-more p i =
    ap (count_from p 0) (add-one i) ∙ count_next p 0 i ∙ ap (λ (j : ℕ). count_from p 0 i + bit (p j)) (zero-add i)

-- counting gives a sum
pub count-total : (p : ℕ → Bool) (k : ℕ) → count_from p 0 k ≡ total (λ x. bit (p x)) k
unfolding count_from total
count-total p zero = refl
count-total p (suc k) =
    count_next p 0 k ∙ ap₂ (λ (a j : ℕ). a + bit (p j)) (count-total p k) (zero-add k)

-- equal summands
pub total-same : (f g : ℕ → ℕ) (m : ℕ) → ((x : ℕ) → x < m → f x ≡ g x) → total f m ≡ total g m
unfolding total
total-same f g zero e = refl
total-same f g (suc m) e =
    ap₂ (λ (a b : ℕ). a + b) (total-same f g m (λ x l. e x (omega arith))) (e m (le_refl (suc m)))

-- the sum of sums
pub total-add : (f g : ℕ → ℕ) (m : ℕ) → total (λ x. f x + g x) m ≡ total f m + total g m
unfolding total
total-add f g zero = refl
total-add f g (suc m) = let h = total-add f g m in omega (arith, h)

-- a table summed by rows and by columns
pub total-swap : (f : ℕ → ℕ → ℕ) (m n : ℕ) → total (λ x. total (f x) n) m ≡ total (λ y. total (λ x. f x y) m) n
unfolding total
total-swap f zero n = none n
  where
    none : (n : ℕ) → 0 ≡ total (λ y. 0) n
    none zero = refl
    none (suc n) = none n ∙ sym (add-zero (total (λ y. 0) n))
total-swap f (suc m) n =
    ap (λ (a : ℕ). a + total (f m) n) (total-swap f m n) ∙ sym (total-add (λ y. total (λ x. f x y) m) (f m) n)

-- one number at most is a given one
pub total-one : (q : ℕ → Bool) (a m : ℕ) → total (λ x. bit (eqb x a && q x)) m ≡ bit (ltb a m && q a)
unfolding total
total-one q a zero = sym (ap (λ (b : Bool). bit (b && q a)) (le-ltb a 0 zero-le))
total-one q a (suc m) =
    ap (λ (s : ℕ). s + bit (eqb m a && q m)) (total-one q a m) ∙ go (eqb m a) refl
  where
    next : (b : Bool) → m ≢ a → ltb a m ≡ b → ltb a (suc m) ≡ b
    next true other l = let below : a < m = ltb-true a m l in lt-ltb a (suc m) (omega arith)
    next false other l = let past : m ≤ a = ltb-false a m l in le-ltb a (suc m) (omega arith)

    go : (b : Bool) → eqb m a ≡ b → bit (ltb a m && q a) + bit (b && q m) ≡ bit (ltb a (suc m) && q a)
    go true e =
        let same : m ≡ a = eqb-true m a e in
        rw (← same, le-ltb m m (le_refl m), lt-ltb m (suc m) (le_refl (suc m))) (zero-add (bit (q m)))
    go false e =
        add-zero (bit (ltb a m && q a))
        ∙ ap (λ (b : Bool). bit (b && q a)) (sym (next (ltb a m) (eqb-false m a e) refl))

-- a sum of summands that are 1 at most
pub total-limit : (f : ℕ → ℕ) (m : ℕ) → ((x : ℕ) → x < m → f x ≤ 1) → total f m ≤ m
unfolding total
total-limit f zero h = le_refl 0
total-limit f (suc m) h =
    let before = total-limit f m (λ x l. h x (omega arith)) in
    let here = h m (le_refl (suc m)) in
    omega arith

-- a sum grows, and past a summand that is 1 it does not stay
pub total-passes : (f : ℕ → ℕ) (a b : ℕ) → a < b → f a ≡ 1 → total f a < total f b
unfolding total
total-passes f a zero l e = absurd (not-suc-le-zero l)
total-passes f a (suc b) l e = go (eqb a b) refl (total-passes f a b)
  where
    go : (t : Bool) → eqb a b ≡ t → (a < b → f a ≡ 1 → total f a < total f b) → total f a < total f b + f b
    go true q before =
        let same : a ≡ b = eqb-true a b q in
        rw (← same, e) (omega arith)
    go false q before =
        let other : a ≢ b = eqb-false a b q in
        let lower : a < b = omega arith in
        omega (arith, before lower e)

-- as many pass as are counted, at most
pub count_most : (p : ℕ → Bool) (k : ℕ) → count_from p 0 k ≤ k
count_most p k = rw (count-total p k) (total-limit (λ x. bit (p x)) k (λ x l. one (p x)))
  where
    one : (b : Bool) → bit b ≤ 1
    one true = omega arith
    one false = omega arith
