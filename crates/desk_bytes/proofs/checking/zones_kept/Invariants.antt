-- The invariant: whether the zones that are left stand in their places is the answer.
use Rattle.std.proofs.Common.{◌≡◌, ◌+◌, ◌*◌, ◌-◌}
use Rattle.desk_bytes.specs.Encoding.{zones_from, desk_in}
use Rattle.desk_bytes.specs.StandAt.{stand_at}
use Rattle.desk_bytes.proofs.checking.zones_kept.Given as goal

abbrev pub invariant-loop-k : goal.invariant-loop-k
invariant-loop-k l =
    stand_at l.s (8 + 64 * l.k) (zones_from (desk_in l.s) l.k (8 - l.k))
    ≡ stand_at l.s 8 (zones_from (desk_in l.s) 0 8)
