use Rattle.std.proofs.Common.{rules, ap, ◌∙◌, sym}
use Rattle.sheet.specs.Sheet.{Sheet, finding_of}
use Rattle.sheet.proofs.Reading.{judge-refused, judge-routes}
use Rattle.sheet.proofs.judge.judge.Goals as goal

pub returns-in_err-judge_turnouts : goal.returns-in_err-judge_turnouts
returns-in_err-judge_turnouts c =
    let refused = c.in_err-judge_turnouts in
    let told = judge-refused c.args.st refused.field-0.0 refused.ensures in
    search rules

pub returns : goal.returns
returns c =
    c.judge_routes.ensures
    ∙ ap (λ (x : Sheet). finding_of x) (sym (judge-routes c.args.st c.in_ok-judge_turnouts.ensures))
