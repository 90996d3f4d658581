-- The first number of a range that passes a test: it passes and those before it do not; tests that find
-- the same.
use mathlib.Core.Bool.{Bool, true, false, cond, false≢true}
use mathlib.Core.Logic.{◌≢◌}
use mathlib.Core.Path.{◌≡◌, refl, sym, ap, ap₂, ◌∙◌}
use Prim.Native.Nat.{ℕ, zero, suc, ◌+◌, ◌≤◌, ◌<◌}
use native.Mathlib.Omega.{arith}
use borrow.Author.Tests.{eqb-true, eqb-false}
use lib.Dec.{eqb}
use Rattle.sets.specs.Range.{first_from}

-- what is found passes, and what stands before it does not
pub found_from : (p : ℕ → Bool) (i k : ℕ) → first_from p i k < i + k → p (first_from p i k) ≡ true
unfolding first_from
found_from p i zero l = absurd (omega arith)
found_from p i (suc k) l = go (p i) refl l (found_from p (i + 1) k)
  where
    go : (b : Bool) → p i ≡ b → cond b i (first_from p (i + 1) k) < i + suc k →
        (first_from p (i + 1) k < i + 1 + k → p (first_from p (i + 1) k) ≡ true)
        → p (cond b i (first_from p (i + 1) k)) ≡ true
    go true e l later = e
    go false e l later = later (omega arith)

pub before-from : (p : ℕ → Bool) (i k j : ℕ) → i ≤ j → j < first_from p i k → p j ≡ false
unfolding first_from
before-from p i zero j m l = absurd (omega arith)
before-from p i (suc k) j m l = go (p i) refl l (eqb i j) refl (before-from p (i + 1) k j)
  where
    go : (b : Bool) → p i ≡ b → j < cond b i (first_from p (i + 1) k) → (q : Bool) → eqb i j ≡ q →
        (i + 1 ≤ j → j < first_from p (i + 1) k → p j ≡ false) → p j ≡ false
    go true e l q f later = absurd (omega arith)
    go false e l true f later = ap p (sym (eqb-true i j f)) ∙ e
    go false e l false f later = let other : i ≢ j = eqb-false i j f in later (omega arith) l

-- a test that passes wherever another does, and does so at the first place of the other
pub same_first :
    (p q : ℕ → Bool) (i k : ℕ) → ((j : ℕ) → q j ≡ true → p j ≡ true)
    → (first_from p i k < i + k → q (first_from p i k) ≡ true)
    → first_from p i k ≡ first_from q i k
unfolding first_from
same_first p q i zero less first = refl
same_first p q i (suc k) less first =
    go (p i) refl (q i) refl first (same_first p q (i + 1) k less)
  where
    go :
        (a : Bool) → p i ≡ a → (b : Bool) → q i ≡ b
        → (cond a i (first_from p (i + 1) k) < i + suc k → q (cond a i (first_from p (i + 1) k)) ≡ true)
        → ((first_from p (i + 1) k < i + 1 + k → q (first_from p (i + 1) k) ≡ true)
        → first_from p (i + 1) k ≡ first_from q (i + 1) k)
        → cond a i (first_from p (i + 1) k) ≡ cond b i (first_from q (i + 1) k)
    go true e true f first later = refl
    go true e false f first later = absurd (false≢true (sym f ∙ first (omega arith)))
    go false e true f first later = absurd (false≢true (sym e ∙ less i f))
    go false e false f first later = later (λ l. first (omega (arith, l)))

-- tests that agree find the same
pub first-same :
    (f g : ℕ → Bool) (i k : ℕ) → ((j : ℕ) → j < i + k → f j ≡ g j) → first_from f i k ≡ first_from g i k
unfolding first_from
first-same f g i zero e = refl
first-same f g i (suc k) e =
    ap₂ (λ (b : Bool) (n : ℕ). cond b i n) (e i (omega arith))
    (first-same f g (i + 1) k (λ j l. e j (omega arith)))
