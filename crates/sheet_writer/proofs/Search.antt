-- The records of a table from a count on: a test of all of them is a test of each place.
use mathlib.Core.Bool.{Bool, true, false, ◌&&◌}
use mathlib.Core.List.{List, [], ◌∷◌}
use mathlib.Core.Path.{◌≡◌, refl, sym, ap, ◌∙◌}
use Prim.Native.Nat.{ℕ, zero, suc, ◌+◌, ◌-◌, ◌≤◌, ◌<◌, min}
use native.Mathlib.Numerals.{add-one}
use native.Mathlib.Omega.{arith}
use borrow.Author.Tests.{ltb-true, ltb-false}
use lib.Dec.{ltb}
use lib.ListN.{length, get_or, take, drop, get_or-eq_default}
use lib.Seq.{drop-cons}
use Rattle.std.specs.List.{list_all}
use Rattle.std.proofs.lemmas.List.{drop_all}
use Rattle.sets.specs.Range.{all_from}
use Rattle.sheet_writer.specs.Past.{all_past}

module _ {A : Type 0} (test : A → Bool) (xs : List A) (e : A) (empty : test e ≡ true) where
  abbrev at : ℕ → Bool
  at j = test (get_or xs j e)

  -- no record is left
  none-left : (k : ℕ) → list_all test (take k []) ≡ true
  none-left zero = refl
  none-left (suc k) = refl

  -- the k records from i on; past the last record every place passes
  rest : (i k : ℕ) → list_all test (take k (drop i xs)) ≡ all_from at i k
  unfolding all_from
  rest i zero = refl
  rest i (suc k) = go (ltb i (length xs)) refl (rest (i + 1) k)
    where
      go :
          (b : Bool) → ltb i (length xs) ≡ b → list_all test (take k (drop (i + 1) xs)) ≡ all_from at (i + 1) k
          → list_all test (take (suc k) (drop i xs)) ≡ (at i && all_from at (i + 1) k)
      go true q later =
          let inside : i < length xs = ltb-true i (length xs) q in
          let next : drop i xs ≡ get_or xs i e ∷ drop (i + 1) xs =
          drop-cons xs i e inside ∙ ap (λ (n : ℕ). get_or xs i e ∷ drop n xs) (sym (add-one i)) in
          rw next (ap (λ (b : Bool). at i && b) later)
      go false q later =
          let past : length xs ≤ i = ltb-false i (length xs) q in
          let more : length xs ≤ i + 1 = omega arith in
          rw (drop_all i xs past, get_or-eq_default xs e past, empty)
          (sym (none-left k) ∙ (rw (drop_all (i + 1) xs more) at later))

  -- by another test that says the same of each record
  pub past-all :
      (other : A → Bool) → ((x : A) → test x ≡ other x) → (n m : ℕ) → m ≡ min n 64
      → list_all test (take (64 - m) (drop m xs)) ≡ all_past (λ j. other (get_or xs j e)) n
  past-all other same n m limit =
      rest m (64 - m)
      ∙ ap (λ (k : ℕ). all_from at k (64 - k)) limit
      ∙ ap (λ (t : A → Bool). all_past (λ j. t (get_or xs j e)) n) (λ i. λ x. same x i)
