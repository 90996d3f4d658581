-- A movement that stands has all its fields, no movement has none.
use Rattle.std.proofs.Common.{◌≡◌, sym, ◌∙◌}
use Rattle.bigendian.specs.BigEndian.{byte_at}
use Rattle.desk_bytes.proofs.Kept.{slice-bytes, standing-kept, no-movement-kept}
use Rattle.desk_bytes.proofs.checking.movement_kept.Goals as goal

pub returns-then-standing-eq1 : goal.returns-then-standing-eq1
returns-then-standing-eq1 c =
    let s = c.args.s.now in
    let first = sym c.get-standing.ensures ∙ c.if-standing-eq1.true in
    sym (standing-kept s c.args.at (slice-bytes s c.type_inv.s) first)

pub returns : goal.returns
returns c =
    let s = c.args.s.now in
    let first = c.get-standing.ensures in
    let none : byte_at s c.args.at ≡ 1 → ⊥ = λ e. c.if-standing-eq1.false (first ∙ e) in
    let kept = no-movement-kept s c.args.at (slice-bytes s c.type_inv.s) none in
    rw (
      c.get-5.ensures,
      c.get-4.ensures,
      c.get-3.ensures,
      c.get-2.ensures,
      c.get.ensures,
      first,
    )
    (sym kept)
