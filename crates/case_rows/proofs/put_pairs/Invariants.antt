-- The invariant says that the steps left give the whole.
use Rattle.std.proofs.Common.{◌≡◌, ◌-◌}
use Rattle.case_rows.specs.Rows.{repeated, with_pair, with_pairs}
use Rattle.case_rows.proofs.put_pairs.Given as goal

abbrev pub invariant-loop : goal.invariant-loop
invariant-loop l =
    with_pairs l.fn.s l.input l.at ≡ repeated (16 - l.counter) (with_pair l.input) (record { place = l.next; bytes = l.s })
