-- The invariant is the table filled so far.
use Rattle.std.proofs.Common.{◌≡◌, ℕ, List}
use lib.ListN.{get_or}
use Rattle.sets.specs.Table.{places}
use Rattle.sheet.specs.Sheet.{pair_in}
use Rattle.sheet.proofs.judge.pairs_in.Given as goal

abbrev pub pair-at : List ℕ → ℕ → ℕ
pair-at groups k = pair_in (get_or groups k 0)

abbrev pub invariant-loop-i : goal.invariant-loop-i
invariant-loop-i l = l.out ≡ places (pair-at l.groups) l.i 0
