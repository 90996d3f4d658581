-- What a route asks of a turnout, by the pair that it belongs to.
use mathlib.Core.Bool.{Bool, true, false, cond, not, ◌&&◌, ◌||◌, false≢true}
use mathlib.Core.Path.{◌≡◌, refl, sym, ap, ◌∙◌}
use Prim.Native.Nat.{ℕ}
use lib.Bits.{bit_and}
use lib.Dec.{eqb}
use Rattle.sets.specs.Sets.{has, within, count}
use Rattle.sets.proofs.Membership.{has-and, has-zero}
use Rattle.sets.proofs.Members.{within_all}
use Rattle.station.specs.declared.Turnout.{Turnout}
use Rattle.station.specs.declared.Route.{Route}
use Rattle.station.specs.Station.{named_by}
use Rattle.groups.specs.Groups.{whole}
use Rattle.sheet.specs.Sheet.{pair_in, member_kept, member_by}

-- nothing is taken whole
nothing-whole : (x s : ℕ) → whole (bit_and 0 x) s ≡ true
nothing-whole x s = rw (within_all (bit_and 0 x) s (λ n m. absurd (false≢true (sym (none n) ∙ m))))
  where
    none : (n : ℕ) → has (bit_and 0 x) n ≡ false
    none n = has-and 0 x n ∙ ap (λ (b : Bool). b && has x n) (has-zero n)

position :
    (g x s : ℕ) → whole (bit_and (pair_in g) x) s ≡ (not (eqb (count g) 2) || whole (bit_and g x) s)
position g x s = go (eqb (count g) 2)
  where
    go : (b : Bool) → whole (bit_and (cond b g 0) x) s ≡ (not b || whole (bit_and g x) s)
    go true = refl
    go false = nothing-whole x s

pub by-pair :
    (r : Route) (n : ℕ) (t : Turnout) (g : ℕ) → member_by r n t g (pair_in g) ≡ member_kept r n t g
by-pair r n t g =
    let zone = not (has (named_by r) n) || eqb t.zone r.zone in
    let flank = not (has r.flank n) || within g r.flank in
    ap (λ (b : Bool). zone && flank && b) (position g (named_by r) r.reverse)
