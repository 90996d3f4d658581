use Rattle.std.proofs.Common.{◌+◌, ◌*◌, sym}
use Rattle.desk_bytes.proofs.Kept.{slice-bytes, zone-kept}
use Rattle.desk_bytes.proofs.checking.zone_kept.Goals as goal

pub returns : goal.returns
returns c =
    let s = c.args.s.now in
    rw (
      c.get-2.ensures,
      c.keys_kept.ensures,
      c.get.ensures,
      c.movement_kept.ensures,
      c.work_kept.ensures,
      c.place-at.ensures,
    )
    (sym (zone-kept s (8 + 64 * c.args.k) (slice-bytes s c.type_inv.s)))
