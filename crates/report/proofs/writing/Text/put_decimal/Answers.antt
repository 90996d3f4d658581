use Rattle.report.proofs.Filling.{decimal-printed}
use Rattle.report.proofs.writing.Text.put_decimal.Goals as goal

pub returns-clause-put : goal.returns-clause-put
returns-clause-put c =
    rw (← decimal-printed c.args.n c.ranges.n.fits)
    (rw (c.as_bytes.ensures.value, c.format.ensures.text) at c.put_all.ensures.put)
