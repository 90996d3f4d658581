-- The invariant is the two sets of group numbers so far.
use Rattle.std.proofs.Common.{◌≡◌}
use mathlib.Core.Bool.{not}
use Rattle.sets.specs.Sets.{has}
use Rattle.groups.proofs.Numbers.{numbers_of}
use Rattle.groups.proofs.splits_group.Given as goal

abbrev pub invariant-loop-i : goal.invariant-loop-i
invariant-loop-i l =
    let ts = l.st.turnout in
    (l.taken ≡ numbers_of ts (has l.s) l.i) × (l.left ≡ numbers_of ts (λ k. not (has l.s k)) l.i)
