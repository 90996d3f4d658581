-- The invariant is the table filled so far.
use Rattle.std.proofs.Common.{◌≡◌}
use Rattle.sets.specs.Table.{places}
use Rattle.groups.specs.Groups.{tied_among}
use Rattle.groups.proofs.carriers.ties.Given as goal

abbrev pub invariant-loop-i : goal.invariant-loop-i
invariant-loop-i l = l.out ≡ places (tied_among l.p l.ts) l.i 0
