-- Three times a number and the byte after it.
use Rattle.std.proofs.Common.{sym, ◌∙◌}
use Rattle.report.specs.Text.{line_of}
use Rattle.report.proofs.Filling.{byte-after, byte_last}
use Rattle.report.proofs.writing.Text.put_line.Goals as goal

pub returns-clause-put : goal.returns-clause-put
unfolding line_of
returns-clause-put c =
    sym (byte-after _ _ _ _ _ c.put_decimal.ensures.put c.put_byte.ensures.put
    ∙ byte-after _ _ _ _ _ c.put_decimal-2.ensures.put c.put_byte-2.ensures.put
    ∙ sym (byte_last _ _ _ _ c.put_decimal-3.ensures.put c.put_byte-3.ensures.put))
