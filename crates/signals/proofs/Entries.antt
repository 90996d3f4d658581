-- A rule of a table, proved at all of its entries by one test that antt computes, one entry after
-- the other.
use mathlib.Core.Path.{◌≡◌}
use mathlib.Core.Bool.{Bool, true, ◌&&◌, and-eq-true_iff}
use mathlib.Core.List.{List, [], ◌∷◌}
use Prim.Native.Nat.{ℕ, zero, suc, ◌+◌, ◌<◌}
use native.Mathlib.Nat.{add-zero, zero-add, add-suc, suc-add, le_of_suc-le-suc, not-suc-le-zero}
use lib.ListN.{length, get_or}

-- the test f passes at each entry of the list and its place, counted from i
abbrev pub every : (ℕ → ℕ → Bool) → ℕ → List ℕ → Bool
every f i [] = true
every f i (x ∷ xs) = f i x && every f (suc i) xs

module _ (f : ℕ → ℕ → Bool) where
  -- a test that passes at each passes at the k-th from i
  from :
      (xs : List ℕ) (i : ℕ) → every f i xs ≡ true →
      (k : ℕ) → k < length xs → f (i + k) (get_or xs k 0) ≡ true
  from [] i e k h = absurd (not-suc-le-zero h)
  from (x ∷ xs) i e zero h =
      let here = ((and-eq-true_iff (f i x) (every f (suc i) xs)).0 e).0 in
      rw add-zero here
  from (x ∷ xs) i e (suc k) h =
      let rest = ((and-eq-true_iff (f i x) (every f (suc i) xs)).0 e).1 in
      rw (add-suc, ← suc-add) (from xs (suc i) rest k (le_of_suc-le-suc h))

  -- and at place k of the whole list
  pub at :
      (xs : List ℕ) → every f 0 xs ≡ true →
      (k : ℕ) → k < length xs → f k (get_or xs k 0) ≡ true
  at xs e k h = rw zero-add at (from xs 0 e k h)
