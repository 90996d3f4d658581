use Rattle.std.proofs.Common.{◌≡◌, ◌-◌, ℕ, ap, arith}
use Rattle.case_rows.specs.Rows.{repeated}
use Rattle.case_rows.proofs.Steps.{next-step, last_step}
use Rattle.case_rows.proofs.repeated.Goals as goal

pub loop-init : goal.loop-init
loop-init g c = λ f each.
    let all : c.args.n ≡ c.args.n - 0 = omega arith in
    ap (λ (k : ℕ). repeated k f c.args.start) all

pub loop-preserved : goal.loop-preserved
loop-preserved g c = λ f each.
    let l = c.loop in
    let done = each l.reached c.step-reached.result c.step-reached.ensures in
    next-step f c.args.n l.counter (l.invariant f each) c.loop-test.true done

pub returns : goal.returns
returns g c = λ f each.
    last_step f c.args.n c.loop.counter (c.loop.invariant f each) c.loop-test.false
