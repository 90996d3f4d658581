-- The buffers' lengths are what the laws of the text ask for.
use Rattle.std.proofs.Common.{◌∙◌, arith}
use Rattle.printing.specs.declared.TheConstants.{SHEET, JOURNAL}
use Rattle.printing.proofs.Buffers.{whole, within}
use Rattle.printing.proofs.text_of_files.Goals as goal

pub returns-clause-text : goal.returns-clause-text
returns-clause-text c =
    λ s j sheet-holds journal-holds.
    let a = c.args in
    c.put_text.ensures
    ∙ whole SHEET c.first.result.now JOURNAL c.first-2.result.now a.out.now s j
    (omega arith) (omega arith) (omega arith)
    (c.first.ensures ∙ sheet-holds) (c.first-2.ensures ∙ journal-holds)

pub returns-clause-within : goal.returns-clause-within
returns-clause-within c =
    let ends = within c.args.out.now _ _ c.put_text.ensures in
    omega arith
