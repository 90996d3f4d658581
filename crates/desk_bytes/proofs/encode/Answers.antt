-- The zones are stored where the head ends.
use Rattle.std.proofs.Common.{refl}
use Rattle.desk_bytes.specs.Encoding.{head_bytes, zones_from, desk_bytes}
use Rattle.bigendian.proofs.Places.{part_then}
use Rattle.desk_bytes.proofs.encode.Goals as goal

pub returns : goal.returns
unfolding desk_bytes
returns c =
    part_then head_bytes (zones_from c.args.d 0 8) c.args.s.now 0 8 refl
    c.put_head.ensures
    c.put_zones.ensures
