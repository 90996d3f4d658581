use Rattle.std.proofs.Common.{rules, arith, sym, ◌∙◌}
use Rattle.panel.proofs.Laws.{answer-refused, answer-else}
use Rattle.panel.proofs.read_panel_sheet.Goals as goal

pub returns-in_err-check_header : goal.returns-in_err-check_header
returns-in_err-check_header c =
    let refused = c.in_err-check_header in
    let told = answer-refused c.args.s.now refused.field-0.0 refused.ensures in
    search rules

pub returns : goal.returns
returns c =
    let passed = c.in_ok-check_header.ensures in
    c.read_sheet.ensures ∙ sym (answer-else c.args.s.now (λ q. omega arith))
