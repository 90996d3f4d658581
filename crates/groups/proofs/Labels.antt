-- The numbers below a limit by a label that each carries: one set for each of 32 labels, filled number by number.
use mathlib.Core.Bool.{Bool, true, false, cond}
use mathlib.Core.Path.{◌≡◌, refl, sym, ap, ◌∙◌}
use mathlib.Core.List.{List}
use Prim.Native.Nat.{ℕ, ◌+◌, ◌≤◌, ◌<◌}
use native.Mathlib.Nat.{zero-add}
use native.Mathlib.Numerals.{add-one}
use borrow.Author.Tests.{eqb-true, eqb-false}
use lib.Dec.{eqb}
use lib.Bits.{or_zero_r}
use lib.ListN.{length, get_or, set, replicate, length-set}
use lib.Seq.{ext_get_or, get_or-set_same, get_or-set_other, set_out}
use Rattle.sets.specs.Sets.{single, union, set_of}
use Rattle.sets.specs.Table.{values_from}
use Rattle.sets.proofs.Tables.{length-values, get_d-values}

-- the sets gs with number i in that of label g
abbrev pub joined : List ℕ → ℕ → ℕ → List ℕ
joined gs g i = set gs g (union (get_or gs g 0) (single i))

module _ (label : ℕ → ℕ) where
  -- the numbers below i of label g
  abbrev pub labelled : ℕ → ℕ → ℕ
  labelled i g = set_of (λ k. eqb (label k) g) i

  -- the sets of the labels
  abbrev pub by_set : ℕ → List ℕ
  by_set i = values_from (labelled i) 0 32

  pub by-none : replicate 32 0 ≡ by_set 0
  unfolding values_from set_of
  by-none = refl

  at : (i j : ℕ) → j < 32 → get_or (by_set i) j 0 ≡ labelled i j
  at i j l = get_d-values (labelled i) 0 32 j 0 l ∙ ap (labelled i) (zero-add j)

  more : (i g : ℕ) → labelled (i + 1) g ≡ union (labelled i g) (cond (eqb (label i) g) (single i) 0)
  unfolding set_of
  more i g = ap (λ (m : ℕ). labelled m g) (add-one i)

  pub by_next : (i : ℕ) → joined (by_set i) (label i) i ≡ by_set (i + 1)
  by_next i =
      ext_get_or 0 (joined (by_set i) (label i) i) (by_set (i + 1)) (long ∙ sym (length-values (labelled (i + 1)) 0 32))
      (λ j l. here j (rw long at l) (eqb (label i) j) refl)
    where
      long : length (joined (by_set i) (label i) i) ≡ 32
      long = length-set (by_set i) (label i) (union (get_or (by_set i) (label i) 0) (single i))
          ∙ length-values (labelled i) 0 32

      here : (j : ℕ) → j < 32 → (b : Bool) → eqb (label i) j ≡ b
          → get_or (joined (by_set i) (label i) i) j 0 ≡ get_or (by_set (i + 1)) j 0
      here j l true e =
          let same : label i ≡ j = eqb-true (label i) j e in
          let below : label i < length (by_set i) = rw (length-values (labelled i) 0 32, same) l in
          ap (λ (k : ℕ). get_or (joined (by_set i) (label i) i) k 0) (sym same)
          ∙ get_or-set_same (by_set i) (label i) (union (get_or (by_set i) (label i) 0) (single i)) 0 below
          ∙ ap (λ (k : ℕ). union (get_or (by_set i) k 0) (single i)) same
          ∙ ap (λ (x : ℕ). union x (single i)) (at i j l)
          ∙ sym (at (i + 1) j l ∙ more i j ∙ rw e)
      here j l false e =
          get_or-set_other (by_set i) (label i) j (union (get_or (by_set i) (label i) 0) (single i)) 0
          (λ q. eqb-false (label i) j e (sym q))
          ∙ at i j l ∙ sym (at (i + 1) j l ∙ more i j ∙ rw e (or_zero_r (labelled i j)))

  -- a label that has no set adds nothing
  pub by-other : (i : ℕ) → 32 ≤ label i → by_set i ≡ by_set (i + 1)
  by-other i past =
      let out : length (by_set i) ≤ label i = rw (length-values (labelled i) 0 32) past in
      sym (set_out (by_set i) (label i) (union (get_or (by_set i) (label i) 0) (single i)) out) ∙ by_next i
