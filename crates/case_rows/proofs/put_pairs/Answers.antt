use Rattle.std.proofs.Common.{refl}
use Rattle.case_rows.specs.Rows.{with_pair, with_pairs}
use Rattle.case_rows.proofs.Steps.{next-step, last_step}
use Rattle.case_rows.proofs.put_pairs.Goals as goal

pub loop-init : goal.loop-init
unfolding with_pairs
loop-init c = refl

pub loop-preserved : goal.loop-preserved
loop-preserved c =
    let l = c.loop in
    next-step (with_pair c.args.input.now) 16 l.counter l.invariant c.loop-test.true c.put_pair-next.ensures

pub returns : goal.returns
returns c =
    let l = c.loop in
    last_step (with_pair c.args.input.now) 16 l.counter l.invariant c.loop-test.false
