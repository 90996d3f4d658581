-- Tests joined by && and ||, taken apart.
use mathlib.Core.Bool.{Bool, true, false, not, ◌&&◌, ◌||◌, and-eq-true_iff, false≢true}
use mathlib.Core.Logic.{◌⊎◌, inl, inr}
use mathlib.Core.Path.{◌≡◌, refl, sym}

-- each of three tests joined by && passes
pub three : (a b c : Bool) → (a && b && c) ≡ true → (a ≡ true) × (b ≡ true) × (c ≡ true)
three a b c h =
    let outer = (and-eq-true_iff (a && b) c).0 h in
    let inner = (and-eq-true_iff a b).0 outer.0 in
    (inner.0, inner.1, outer.1)

-- each of four
pub four :
    (a b c d : Bool) → (a && b && c && d) ≡ true →
    (a ≡ true) × (b ≡ true) × (c ≡ true) × (d ≡ true)
four a b c d h =
    let outer = (and-eq-true_iff (a && b && c) d).0 h in
    let inner = three a b c outer.0 in
    (inner.0, inner.1, inner.2, outer.1)

-- each of five
pub five :
    (a b c d e : Bool) → (a && b && c && d && e) ≡ true →
    (a ≡ true) × (b ≡ true) × (c ≡ true) × (d ≡ true) × (e ≡ true)
five a b c d e h =
    let outer = three (a && b && c) d e h in
    let inner = three a b c outer.0 in
    (inner.0, inner.1, inner.2, outer.1, outer.2)

-- each of six
pub six :
    (a b c d e f : Bool) → (a && b && c && d && e && f) ≡ true →
    (a ≡ true) × (b ≡ true) × (c ≡ true) × (d ≡ true) × (e ≡ true) × (f ≡ true)
six a b c d e f h =
    let outer = (and-eq-true_iff (a && b && c && d && e) f).0 h in
    let inner = five a b c d e outer.0 in
    (inner.0, inner.1, inner.2, inner.3, inner.4, outer.1)

-- one of two tests joined by || passes
pub either : (a b : Bool) → (a || b) ≡ true → (a ≡ true) ⊎ (b ≡ true)
either true b h = inl refl
either false b h = inr h

-- a test that is asked only where another passes
pub asked : (a b : Bool) → (not a || b) ≡ true → a ≡ true → b ≡ true
asked true b h e = h
asked false b h e = absurd (false≢true e)

-- two tests of which each gives the other
pub same_test : (a b : Bool) → (a ≡ true → b ≡ true) → (b ≡ true → a ≡ true) → a ≡ b
same_test true b f g = sym (f refl)
same_test false true f g = g refl
same_test false false f g = refl
