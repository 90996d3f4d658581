-- Bytes of another length are no desk's; in 520 bytes the head and the zones tell.
use Rattle.std.proofs.Common.{sym}
use Rattle.desk_bytes.proofs.Kept.{slice-bytes, desk-kept, other_length}
use Rattle.desk_bytes.proofs.is_desk.Goals as goal

pub returns-then-s-ne-LENGTH : goal.returns-then-s-ne-LENGTH
returns-then-s-ne-LENGTH c = sym (other_length c.args.s.now c.if-s-ne-LENGTH.true)

pub returns : goal.returns
returns c =
    let s = c.args.s.now in
    rw (c.zones_kept.ensures, c.get.ensures)
    (sym (desk-kept s (slice-bytes s c.type_inv.s) c.if-s-ne-LENGTH.false))
