-- The first number of a range that passes a test, by what a search through the range tells.
use mathlib.Core.Bool.{Bool, true, false, cond, false≢true}
use mathlib.Core.Path.{◌≡◌, refl, sym, ◌∙◌}
use Prim.Native.Nat.{ℕ, ◌≤◌, ◌<◌}
use native.Mathlib.Omega.{arith}
use borrow.Author.Tests.{ltb-true, ltb-false, lt-ltb}
use lib.Dec.{ltb}
use Rattle.std.specs.Prelude.{Option, Some, None, MatchOption}
use Rattle.sets.specs.Range.{first_from}
use Rattle.sets.proofs.Finding.{found_from, before-from}
use Rattle.group_records.specs.GroupRecords.{found_below}

module _ (p : ℕ → Bool) (n : ℕ) where
  -- none passes
  none-found : ((k : ℕ) → k < n → p k ≡ false) → None ≡ found_below (first_from p 0 n) n
  none-found none = go (ltb (first_from p 0 n) n) refl
    where
      go : (b : Bool) → ltb (first_from p 0 n) n ≡ b → None ≡ cond b (Some (first_from p 0 n)) None
      go false e = refl
      go true e =
          let l : first_from p 0 n < n = ltb-true (first_from p 0 n) n e in
          absurd (false≢true (sym (none (first_from p 0 n) l) ∙ found_from p 0 n (omega arith)))

  -- i passes, and none before it
  first-found :
      (i : ℕ) → i < n → p i ≡ true → ((k : ℕ) → k < i → p k ≡ false) → Some i ≡ found_below (first_from p 0 n) n
  first-found i l passed none = rw (here, lt-ltb i n l)
    where
      -- nothing passes below i, and i does
      here : first_from p 0 n ≡ i
      here = go (ltb (first_from p 0 n) i) refl (ltb i (first_from p 0 n)) refl
        where
          go :
              (a : Bool) → ltb (first_from p 0 n) i ≡ a → (b : Bool) → ltb i (first_from p 0 n) ≡ b
              → first_from p 0 n ≡ i
          go true e b f =
              let less : first_from p 0 n < i = ltb-true (first_from p 0 n) i e in
              absurd (false≢true (sym (none (first_from p 0 n) less) ∙ found_from p 0 n (omega arith)))
          go false e true f =
              let less : i < first_from p 0 n = ltb-true i (first_from p 0 n) f in
              absurd (false≢true (sym (before-from p 0 n i (omega arith) less) ∙ passed))
          go false e false f =
              let most : i ≤ first_from p 0 n = ltb-false (first_from p 0 n) i e in
              let least : first_from p 0 n ≤ i = ltb-false i (first_from p 0 n) f in
              omega arith

  -- what a search through the range tells
  pub searched :
      (r : Option ℕ)
      → MatchOption r ((k : ℕ) → 0 ≤ k → k < n → p k ≡ false)
      (λ i. (0 ≤ i) × (i < n) × (p i ≡ true) × ((k : ℕ) → 0 ≤ k → k < i → p k ≡ false))
      → r ≡ found_below (first_from p 0 n) n
  searched None h = none-found (λ k l. h k (omega arith) l)
  searched (Some i) h = first-found i h.1 h.2 (λ k l. h.3 k (omega arith) l)
