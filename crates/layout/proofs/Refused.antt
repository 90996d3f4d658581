-- A header's checks up to the length, before those that come after them.
use mathlib.Core.Bool.{Bool, true, false, cond, not}
use mathlib.Core.List.{List}
use mathlib.Core.Path.{◌≡◌, refl}
use Prim.Native.Nat.{ℕ, ◌≤◌}
use native.Mathlib.Omega.{arith}
use lib.Dec.{ltb}
use lib.ListN.{length}
use Rattle.refusals.specs.declared.Refusal.{Refusal}
use Rattle.refusals.specs.Numbers.{number_of}
use Rattle.refusals.proofs.Numbers.{some-number}
use Rattle.layout.specs.Layout.{has_mark, version, version_kept, count_p, count_r, count_z}
use Rattle.layout.specs.Layout.{counts_kept, before_length}

-- the checks before the length pass: the later ones decide
pub passes : (s : List ℕ) (later : ℕ) → before_length s 0 ≡ 0 → before_length s later ≡ later
passes s later h =
    go (ltb (length s) 8) (has_mark s) (version_kept (version s))
    (counts_kept (count_p s) (count_r s) (count_z s)) h
  where
    number : Bool → Bool → Bool → Bool → ℕ → ℕ
    number a b c d n = cond a 1 (cond (not b) 2 (cond (not c) 3 (cond (not d) 4 n)))

    go : (a b c d : Bool) → number a b c d 0 ≡ 0 → number a b c d later ≡ later
    go false true true true h = refl
    go false true true false h = absurd (omega arith)
    go false true false d h = absurd (omega arith)
    go false false c d h = absurd (omega arith)
    go true b c d h = absurd (omega arith)

-- one of them refuses: the later ones are not asked
pub stops :
    (s : List ℕ) (later : ℕ) (e : Refusal) → number_of e ≡ before_length s 0 → number_of e ≡ before_length s later
stops s later e h =
    go (ltb (length s) 8) (has_mark s) (version_kept (version s))
    (counts_kept (count_p s) (count_r s) (count_z s)) h
  where
    some : 1 ≤ number_of e
    some = some-number e

    number : Bool → Bool → Bool → Bool → ℕ → ℕ
    number a b c d n = cond a 1 (cond (not b) 2 (cond (not c) 3 (cond (not d) 4 n)))

    go : (a b c d : Bool) → number_of e ≡ number a b c d 0 → number_of e ≡ number a b c d later
    go true b c d h = h
    go false false c d h = h
    go false true false d h = h
    go false true true false h = h
    go false true true true h = absurd (omega (arith, some))

pub ruleset header_order = (passes, stops)
