use Rattle.std.proofs.Common.{◌∙◌, refl, rules, arith}
use Rattle.station.specs.Station.{empty_turnout}
use Rattle.sheet_writer.specs.Past.{is_zero_turnout, turnouts_end}
use Rattle.sheet_writer.proofs.Search.{past-all}
use Rattle.sheet_writer.proofs.past.turnouts_end.Goals as goal

pub returns : goal.returns
unfolding turnouts_end
returns c =
    c.all_are.ensures
    ∙ past-all _ c.args.ts empty_turnout refl is_zero_turnout (λ x. grind arith) c.args.p c.min.result (search rules)
