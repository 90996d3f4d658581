-- The test on two lists of bytes holds exactly when they are the same.
use mathlib.Core.Bool.{Bool, true, false, and-eq-true_iff, false≢true}
use mathlib.Core.List.{List, [], ◌∷◌}
use mathlib.Core.Logic.{◌↔◌}
use mathlib.Core.Path.{◌≡◌, refl, sym, ap, ap₂, ◌∙◌}
use Prim.Native.Nat.{ℕ}
use borrow.Author.Tests.{eqb-true, eq-eqb}
use lib.Dec.{eqb}
use Rattle.desk_bytes.specs.Encoding.{same_bytes}

same_self : (xs : List ℕ) → same_bytes xs xs ≡ true
unfolding same_bytes
same_self [] = refl
same_self (x ∷ xs) = (and-eq-true_iff (eqb x x) (same_bytes xs xs)).1 (eq-eqb x x refl, same_self xs)

same_lists : (xs ys : List ℕ) → same_bytes xs ys ≡ true → xs ≡ ys
unfolding same_bytes
same_lists [] [] h = refl
same_lists [] (y ∷ ys) h = absurd (false≢true h)
same_lists (x ∷ xs) [] h = absurd (false≢true h)
same_lists (x ∷ xs) (y ∷ ys) h =
    let both = (and-eq-true_iff (eqb x y) (same_bytes xs ys)).0 h in
    ap₂ (λ (z : ℕ) (zs : List ℕ). z ∷ zs) (eqb-true x y both.0) (same_lists xs ys both.1)

pub same-exactly : (xs ys : List ℕ) → (same_bytes xs ys ≡ true) ↔ (xs ≡ ys)
same-exactly xs ys = (same_lists xs ys, λ e. ap (same_bytes xs) (sym e) ∙ same_self xs)

-- an answer that is true exactly when the lists are the same is the test
pub same_test :
    (r : Bool) (xs ys : List ℕ) → (r ≡ true → xs ≡ ys) → (xs ≡ ys → r ≡ true) →
    r ≡ same_bytes xs ys
same_test r xs ys told tells = go r refl (same_bytes xs ys) refl
  where
    go : (b : Bool) → r ≡ b → (q : Bool) → same_bytes xs ys ≡ q → r ≡ same_bytes xs ys
    go true p q e = p ∙ sym ((same-exactly xs ys).1 (told p))
    go false p true e = tells (same_lists xs ys e) ∙ sym e
    go false p false e = p ∙ sym e
