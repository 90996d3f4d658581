-- Minutes from one time to another: MINUTES-1 and VALUE-5 (docs/RULES.md).
use Rattle.std.specs.Prelude.{Bool, cond, ◌&&◌, ◌||◌, ℕ, ◌+◌, ◌-◌, ◌/◌, ◌%◌, eqb, ltb}

-- MINUTES-1: "The minutes returned with kind 11 go to the nearest whole minute, and an exact half
-- minute goes to the even one". A duration is so many whole minutes and seconds over
abbrev pub over_half : ℕ → Bool
over_half over = ltb 30 over

abbrev pub exact_half : ℕ → Bool
exact_half over = eqb over 30

abbrev pub is_odd : ℕ → Bool
is_odd minutes = eqb (minutes % 2) 1

-- the next minute is the nearer one, or both are as near and the next is the even one
abbrev pub goes_up : ℕ → ℕ → Bool
goes_up minutes over = over_half over || (exact_half over && is_odd minutes)

abbrev pub nearest_minute : ℕ → ℕ
nearest_minute seconds =
    cond (goes_up (seconds / 60) (seconds % 60)) (seconds / 60 + 1) (seconds / 60)

-- from an agreement to a restoration; VALUE-5: "an agreement later than the restoration gives 0
-- minutes"
unfoldable pub minutes_between : ℕ → ℕ → ℕ
minutes_between since now = cond (ltb now since) 0 (nearest_minute (now - since))
