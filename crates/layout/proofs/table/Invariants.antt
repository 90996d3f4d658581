-- The invariant is the table filled so far.
use Rattle.std.proofs.Common.{◌≡◌, ℕ}
use Rattle.sets.specs.Table.{places}
use Rattle.layout.proofs.table.Given as goal

abbrev pub invariant-loop-i : goal.invariant-loop-i
invariant-loop-i g l =
    (f : ℕ → _) → ((i : ℕ) (x : _) → goal.F-post g l.at i x → x ≡ f i) → l.records ≡ places f l.i l.fn.empty
