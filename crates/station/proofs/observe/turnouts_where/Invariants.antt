-- The invariant is the set found so far.
use Rattle.std.proofs.Common.{◌≡◌, get_or}
use Rattle.sets.specs.Sets.{set_of}
use Rattle.station.specs.Station.{empty_turnout}
use Rattle.station.proofs.observe.turnouts_where.Given as goal

abbrev pub invariant-loop-i : goal.invariant-loop-i
invariant-loop-i g l = l.found ≡ set_of (λ k. g.T.TurnoutTest.meets l.test (get_or l.ts k empty_turnout)) l.i
