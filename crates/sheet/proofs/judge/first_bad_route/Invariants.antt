-- Both invariants say that what is still to be found is the answer; the label leaves both loops
-- with the index.
use Rattle.std.proofs.Common.{◌≡◌, ◌-◌, ℕ, Bool, None, ◌&&◌}
use mathlib.Core.Bool.{not}
use Prim.Native.Nat.{min}
use Rattle.sets.specs.Range.{all_from, first_from}
use Rattle.station.specs.declared.Station.{Station}
use Rattle.station.specs.declared.Route.{Route}
use Rattle.station.specs.Station.{turnout_at, route_at}
use Rattle.groups.specs.Groups.{tied}
use Rattle.sheet.specs.Sheet.{sets_kept, member_kept}
use Rattle.sheet.proofs.judge.first_bad_route.Given as goal

-- turnout k is as the route r wants it
abbrev pub test : Station → Route → ℕ → Bool
test st r k = member_kept r k (turnout_at st k) (tied st k)

-- route i is bad, its sets being judged against m turnouts
abbrev pub bad_for : ℕ → ℕ → Station → ℕ → Bool
bad_for m p st i = not (sets_kept m (route_at st i) && all_from (test st (route_at st i)) 0 p)

abbrev pub bad : ℕ → Station → ℕ → Bool
bad p = bad_for (min p 64) p

abbrev pub invariant-loop-k : goal.invariant-loop-k
invariant-loop-k l =
    (l.bad ≡ None) × (all_from (test l.st l.r) 0 l.p ≡ all_from (test l.st l.r) l.k (l.p - l.k))

abbrev pub invariant-routes : goal.invariant-routes
invariant-routes l =
    (l.bad ≡ None)
    × (first_from (bad l.p l.st) 0 l.i-end ≡ first_from (bad l.p l.st) l.i (l.i-end - l.i))
