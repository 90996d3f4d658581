-- The invariant says that the steps left give the whole.
use Rattle.std.proofs.Common.{◌≡◌, ◌-◌}
use Rattle.case_rows.specs.Rows.{repeated}
use Rattle.case_rows.proofs.repeated.Given as goal

abbrev pub invariant-loop : goal.invariant-loop
invariant-loop g l =
    (f : _) → ((x y : _) → goal.F-post g l.step x y → y ≡ f x)
    → repeated l.n f l.fn.start ≡ repeated (l.n - l.counter) f l.reached
