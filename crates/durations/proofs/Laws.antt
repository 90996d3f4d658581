-- Minutes are the nearest to the seconds, an exact half to the even one; only one number is.
use mathlib.Core.Bool.{Bool, true, false, cond, ◌&&◌, ◌||◌}
use mathlib.Core.Path.{◌≡◌, refl, sym}
use Prim.Native.Nat.{ℕ, ◌+◌, ◌-◌, ◌*◌, ◌/◌, ◌%◌, ◌≤◌, ◌<◌}
use native.Mathlib.Nat.{div-add-mod}
use native.Mathlib.Omega.{arith}
use borrow.Author.Tests.{leb-true, leb-false, eqb-true, eqb-false, lt-ltb, le-ltb}
use Rattle.durations.specs.Minutes.{over_half, exact_half, is_odd, goes_up, nearest_minute}
use Rattle.durations.specs.Minutes.{minutes_between}
use Rattle.durations.specs.Laws.{Nearest, MinutesLaws}

-- less than half a minute away
closer : (seconds n : ℕ) → 60 * n < seconds + 30 → seconds < 60 * n + 30 → Nearest seconds n
closer seconds n above below = record {
  not-above = omega arith;
  not-below = omega arith;
  half-above = λ at. omega arith;
  half-below = λ at. omega arith;
}

-- at most half a minute away, and even
even :
    (seconds n : ℕ) → 60 * n ≤ seconds + 30 → seconds ≤ 60 * n + 30 → n % 2 ≡ 0
    → Nearest seconds n
even seconds n above below is-even = record {
  not-above = above;
  not-below = below;
  half-above = λ at. is-even;
  half-below = λ at. is-even;
}

-- whole minutes and seconds over
rounded :
    (seconds m over : ℕ) → seconds ≡ 60 * m + over → over < 60
    → Nearest seconds (cond (goes_up m over) (m + 1) m)
rounded seconds m over sum fits =
    go (over_half over) refl (exact_half over) refl (is_odd m) refl
  where
    go : (more : Bool) → over_half over ≡ more → (half : Bool) → exact_half over ≡ half
        → (odd : Bool) → is_odd m ≡ odd
        → Nearest seconds (cond (more || (half && odd)) (m + 1) m)
    go true more half _ odd _ =
        let is-more = leb-true _ over more in
        closer seconds (m + 1) (omega arith) (omega arith)
    go false more true half true odd =
        let is-half = eqb-true over _ half in
        let odd-is = eqb-true (m % 2) _ odd in
        even seconds (m + 1) (omega arith) (omega arith) (omega arith)
    go false more true half false odd =
        let is-half = eqb-true over _ half in
        let not-odd = eqb-false (m % 2) _ odd in
        even seconds m (omega arith) (omega arith) (omega arith)
    go false more false half odd _ =
        let not_more = leb-false _ over more in
        let not-half = eqb-false over _ half in
        closer seconds m (omega arith) (omega arith)

nearest-of : (seconds : ℕ) → Nearest seconds (nearest_minute seconds)
nearest-of seconds =
    rounded seconds (seconds / 60) (seconds % 60) (sym (div-add-mod seconds 60)) (omega arith)

nearest : (since seconds : ℕ) → Nearest seconds (minutes_between since (since + seconds))
unfolding minutes_between
nearest since seconds =
    let not-later : since ≤ since + seconds = omega arith in
    let after : since + seconds - since ≡ seconds = omega arith in
    rw (le-ltb (since + seconds) since not-later, after) (nearest-of seconds)

later : (since now : ℕ) → now < since → minutes_between since now ≡ 0
unfolding minutes_between
later since now before = rw (lt-ltb now since before)

next-not-even : (m n : ℕ) → n ≡ m + 1 → m % 2 ≡ 0 → n % 2 ≡ 0 → ⊥
next-not-even m n next even-m even-n = omega arith

-- of two that are nearest neither is less: they would be a minute apart, both an exact half away
-- and both even
not-less : (seconds m n : ℕ) → Nearest seconds m → Nearest seconds n → m < n → ⊥
not-less seconds m n one other less =
    let half-below : seconds ≡ 60 * m + 30 = omega arith in
    let half-above : 60 * n ≡ seconds + 30 = omega arith in
    next-not-even m n (omega arith) (one.half-below half-below) (other.half-above half-above)

only : (seconds m n : ℕ) → Nearest seconds m → Nearest seconds n → m ≡ n
only seconds m n one other =
    omega (arith, not-less seconds m n one other, not-less seconds n m other one)

pub minutes-laws : MinutesLaws
minutes-laws = record { nearest = nearest; later = later; only = only }
