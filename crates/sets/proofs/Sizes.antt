-- How many turnouts the sets of one turnout and of two have.
use mathlib.Core.Bool.{Bool, true, false, ◌&&◌, ◌||◌, and-true}
use mathlib.Core.Logic.{◌≢◌}
use mathlib.Core.Path.{◌≡◌, refl, sym, ap, ap₂, ◌∙◌}
use Prim.Native.Nat.{ℕ, ◌+◌, ◌<◌}
use borrow.Author.Tests.{eqb-true, lt-ltb}
use lib.Dec.{eqb}
use Rattle.sets.specs.Sets.{has, single, union, count}
use Rattle.sets.proofs.Membership.{has-or, has-single}
use Rattle.sets.proofs.Totals.{bit, count-total, total-same, total-add, total-one}

-- in the set of one turnout
pub has_one : (a k : ℕ) → a < 64 → has (single a) k ≡ eqb k a
has_one a k h = has-single a k ∙ ap (λ (b : Bool). b && eqb k a) (lt-ltb a 64 h)

-- one turnout is one
pub count-single : (n : ℕ) → n < 64 → count (single n) ≡ 1
unfolding count
count-single n l =
    count-total (has (single n)) 64
    ∙ total-same (λ x. bit (has (single n) x)) (λ x. bit (eqb x n && true)) 64
    (λ x _. ap bit (has_one n x l ∙ sym (and-true (eqb x n))))
    ∙ total-one (λ x. true) n 64 ∙ rw (lt-ltb n 64 l)

-- two turnouts are two
pub count-two : (n m : ℕ) → n < 64 → m < 64 → n ≢ m → count (union (single n) (single m)) ≡ 2
unfolding count
count-two n m ln lm other =
    count-total (has (union (single n) (single m))) 64
    ∙ total-same (λ x. bit (has (union (single n) (single m)) x))
    (λ x. bit (eqb x n && true) + bit (eqb x m && true)) 64 (λ x _. each x)
    ∙ total-add (λ x. bit (eqb x n && true)) (λ x. bit (eqb x m && true)) 64
    ∙ ap₂ (λ (a b : ℕ). a + b) (total-one (λ x. true) n 64) (total-one (λ x. true) m 64)
    ∙ rw (lt-ltb n 64 ln, lt-ltb m 64 lm)
  where
    go : (x : ℕ) (a b : Bool) → eqb x n ≡ a → eqb x m ≡ b → bit (a || b) ≡ bit (a && true) + bit (b && true)
    go x true true e f = absurd (other (sym (eqb-true x n e) ∙ eqb-true x m f))
    go x true false e f = refl
    go x false true e f = refl
    go x false false e f = refl

    each : (x : ℕ) → bit (has (union (single n) (single m)) x) ≡ bit (eqb x n && true) + bit (eqb x m && true)
    each x =
        ap bit (has-or (single n) (single m) x ∙ ap₂ (λ (a b : Bool). a || b) (has_one n x ln) (has_one m x lm))
        ∙ go x (eqb x n) (eqb x m) refl refl
