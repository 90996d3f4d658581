use Rattle.std.proofs.Common.{sym, ◌∙◌}
use Rattle.report.proofs.Filling.{rest_next, rest_end}
use Rattle.report.proofs.writing.Text.put_all.Goals as goal

pub loop-b-preserved : goal.loop-b-preserved
loop-b-preserved c = (
  c.put_byte.ensures.same_buffer ∙ c.loop-b.invariant.0,
  c.loop-b.invariant.1
      ∙ rest_next _ _ c.args.bytes.now c.loop-b.b-index c.loop-b-test.true c.put_byte.ensures.put,
)

pub returns-clause-put : goal.returns-clause-put
returns-clause-put c =
    sym (c.loop-b.invariant.1 ∙ rest_end _ _ c.args.bytes.now c.loop-b.b-index c.loop-b-test.false)
