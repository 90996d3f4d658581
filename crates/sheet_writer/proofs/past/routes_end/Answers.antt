use Rattle.std.proofs.Common.{◌∙◌, refl, rules, arith}
use Rattle.station.specs.Station.{empty_route}
use Rattle.sheet_writer.specs.Past.{is_zero_route, routes_end}
use Rattle.sheet_writer.proofs.Search.{past-all}
use Rattle.sheet_writer.proofs.past.routes_end.Goals as goal

pub returns : goal.returns
unfolding routes_end
returns c =
    c.all_are.ensures
    ∙ past-all _ c.args.rs empty_route refl is_zero_route (λ x. grind arith) c.args.r c.min.result (search rules)
