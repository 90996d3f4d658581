-- The zeros below the word's lowest one are as many as the lowest member's number.
use Rattle.std.proofs.Common.{sym}
use Rattle.sets.proofs.Counting.{lowest-zeros}
use Rattle.sets.proofs.lowest_of.Goals as goal

pub returns : goal.returns
returns c = sym (lowest-zeros c.args.s)
