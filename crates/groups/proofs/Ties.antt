-- The turnouts tied to one, out of the sets of the groups.
use mathlib.Core.Bool.{Bool, true, false, cond, ◌&&◌}
use mathlib.Core.Path.{◌≡◌, refl, sym, ap, ◌∙◌}
use mathlib.Core.List.{List}
use Prim.Native.Nat.{ℕ, ◌<◌, min}
use native.Mathlib.Nat.{zero-add}
use borrow.Author.Tests.{ltb-true, lt-ltb}
use lib.Dec.{ltb}
use lib.ListN.{get_or}
use Rattle.sets.specs.Sets.{single}
use Rattle.sets.proofs.Tables.{get_d-values}
use Rattle.station.specs.declared.Turnout.{Turnout}
use Rattle.groups.specs.Groups.{number_in, carriers_among, tied_among, group_sets, tied_in}

pub tied-in :
    (p : ℕ) (ts : List Turnout) (n : ℕ) → n < min p 64
    → tied_in (group_sets p ts) n (number_in ts n) ≡ tied_among p ts n
unfolding group_sets tied_among
tied-in p ts n l =
    go (ltb g 32) refl
    ∙ ap (λ (b : Bool). cond (b && ltb g 32) (carriers_among p ts g) (single n))
    (sym (lt-ltb n (min p 64) l))
  where
    g : ℕ
    g = number_in ts n

    go :
        (b : Bool) → ltb g 32 ≡ b
        → cond b (get_or (group_sets p ts) g 0) (single n) ≡ cond b (carriers_among p ts g) (single n)
    go true e =
        get_d-values (carriers_among p ts) 0 32 g 0 (ltb-true g 32 e) ∙ ap (carriers_among p ts) (zero-add g)
    go false e = refl
