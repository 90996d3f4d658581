use Rattle.std.proofs.Common.{sym}
use lib.Bits.{or_zero_r}
use Rattle.sets.proofs.add_if.Goals as goal

pub returns : goal.returns
returns c = rw c.if-test.false (sym (or_zero_r c.args.s))
