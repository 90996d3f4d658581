use Rattle.std.proofs.Common.{sym}
use native.Mathlib.Nat.{add-zero}
use Rattle.partner_records.proofs.with_lower_end.Goals as goal

pub returns : goal.returns
returns c = rw c.if-other-p.false (sym (add-zero c.args.found))
