-- Below 64 the code's test is the rule's, and from 64 on no number is in a word.
use Rattle.std.proofs.Common.{refl, sym, arith}
use Rattle.sets.specs.Sets.{has}
use Rattle.sets.proofs.Membership.{has-past}
use Rattle.sets.proofs.contains.Goals as goal

pub returns-then-n-lt-TURNOUTS : goal.returns-then-n-lt-TURNOUTS
unfolding has
returns-then-n-lt-TURNOUTS c = refl

pub returns : goal.returns
returns c = sym (has-past c.args.s c.args.n (omega arith) (omega arith))
