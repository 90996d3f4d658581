use Rattle.std.proofs.Common.{◌≡◌, refl, min, ap, ◌∙◌, arith, add-one, get_or}
use Rattle.sets.specs.Sets.{set_of}
use Rattle.station.specs.Station.{empty_turnout, turnouts_meeting}
use Rattle.station.proofs.observe.turnouts_where.Goals as goal

pub loop-i-init : goal.loop-i-init
unfolding set_of
loop-i-init g c = refl

pub loop-i-preserved : goal.loop-i-preserved
unfolding set_of
loop-i-preserved g c = rw (c.add_if-found.ensures, c.loop-i.invariant, c.meets.ensures, add-one c.loop-i.i)

pub returns : goal.returns
unfolding turnouts_meeting
returns g c =
    let all : c.loop-i.i ≡ min c.args.p 64 = omega arith in
    c.loop-i.invariant
    ∙ ap (set_of (λ k. g.T.TurnoutTest.meets c.args.test.now (get_or c.args.ts k empty_turnout))) all
