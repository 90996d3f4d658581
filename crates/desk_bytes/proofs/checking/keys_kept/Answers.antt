use Rattle.std.proofs.Common.{sym}
use Rattle.desk_bytes.proofs.Kept.{keys_kept}
use Rattle.desk_bytes.proofs.checking.keys_kept.Goals as goal

pub returns : goal.returns
returns c = rw (c.get-2.ensures, c.get.ensures) (sym (keys_kept c.args.s.now c.args.at))
