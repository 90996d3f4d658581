-- The invariant is the sets of the turnouts passed so far.
use Rattle.std.proofs.Common.{◌≡◌}
use Rattle.groups.specs.Groups.{number_in}
use Rattle.groups.proofs.Labels.{by_set}
use Rattle.groups.proofs.carriers.group_sets.Given as goal

abbrev pub invariant-loop-i : goal.invariant-loop-i
invariant-loop-i l = l.gs ≡ by_set (number_in l.ts) l.i
