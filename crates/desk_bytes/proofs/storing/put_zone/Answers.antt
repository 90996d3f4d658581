-- Each part is stored where the one before ends.
use Rattle.std.proofs.Common.{ℕ, ◌+◌, ◌++◌, refl, ap, ◌∙◌, arith}
use Rattle.std.proofs.lemmas.List.Edits.{sets}
use Rattle.desk_bytes.specs.Encoding.{work_bytes, movement_bytes, last_bytes, zone_bytes}
use Rattle.zone.specs.Movement.{key_set}
use Rattle.bigendian.proofs.Places.{part_then}
use Rattle.desk_bytes.proofs.storing.put_zone.Goals as goal

pub returns : goal.returns
unfolding zone_bytes work_bytes movement_bytes
returns c =
    let a = c.args in
    let at = c.place-at.result in
    let movement = movement_bytes a.z.movement in
    let end = last_bytes a.z.recorder a.z.time (key_set a.z.movement) in
    part_then (work_bytes a.z.work) (movement ++ end) a.s.now at (at + 26) refl
    c.put_work.ensures
    (part_then movement end c.put_work.new.s (at + 26) (at + 49) (omega arith)
    c.put_movement.ensures
    c.put_last.ensures)
    ∙ ap (λ (p : ℕ). sets a.s.now p (zone_bytes a.z)) c.place-at.ensures
