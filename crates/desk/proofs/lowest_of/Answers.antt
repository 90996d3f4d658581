-- A turnout of a set is below 64, and so none of them is 255.
use Rattle.std.proofs.Common.{arith}
use Rattle.sets.proofs.Counting.{lowest-at-most}
use Rattle.desk.proofs.lowest_of.Goals as goal

pub returns-clause-turnout : goal.returns-clause-turnout
returns-clause-turnout c = let low = lowest-at-most c.args.s in let e = c.lowest_of.ensures in grind (arith, low, e)
