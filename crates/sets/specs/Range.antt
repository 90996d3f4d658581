-- Tests on a range of numbers: counting those that pass, finding the first, asking whether all do.
-- Turnouts, routes and zones are numbered from 0 (SET-1 of docs/RULES.md), so many rules are stated
-- by these.
use Rattle.std.specs.Prelude.{Bool, true, cond, ◌&&◌, ℕ, zero, suc, ◌+◌}

-- how many of the k numbers from i on pass the test
unfoldable pub count_from : (ℕ → Bool) → ℕ → ℕ → ℕ
count_from p i zero = 0
count_from p i (suc k) = cond (p i) 1 0 + count_from p (i + 1) k

-- the first of the k numbers from i on that passes the test; i + k if none does
unfoldable pub first_from : (ℕ → Bool) → ℕ → ℕ → ℕ
first_from p i zero = i
first_from p i (suc k) = cond (p i) i (first_from p (i + 1) k)

-- each of the k numbers from i on passes the test
unfoldable pub all_from : (ℕ → Bool) → ℕ → ℕ → Bool
all_from p i zero = true
all_from p i (suc k) = p i && all_from p (i + 1) k
