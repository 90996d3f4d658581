-- Agreed work has all fields, asked work none of an agreement, no work none.
use Rattle.std.proofs.Common.{◌≡◌, sym, ◌∙◌}
use Rattle.bigendian.specs.BigEndian.{byte_at}
use Rattle.desk_bytes.proofs.Kept.{slice-bytes, asked-kept, agreed-kept, no-work-kept}
use Rattle.desk_bytes.proofs.checking.work_kept.Goals as goal

pub returns-then-stage-eq2 : goal.returns-then-stage-eq2
returns-then-stage-eq2 c =
    let s = c.args.s.now in
    let stage = sym c.get-stage.ensures ∙ c.if-stage-eq2.true in
    sym (agreed-kept s c.args.at (slice-bytes s c.type_inv.s) stage)

pub returns-then-stage-eq1 : goal.returns-then-stage-eq1
returns-then-stage-eq1 c =
    let s = c.args.s.now in
    let stage = sym c.get-stage.ensures ∙ c.if-stage-eq1.true in
    rw (c.get-2.ensures, c.get.ensures)
    (sym (asked-kept s c.args.at (slice-bytes s c.type_inv.s) stage))

pub returns : goal.returns
returns c =
    let s = c.args.s.now in
    let stage = c.get-stage.ensures in
    let not-asked : byte_at s c.args.at ≡ 1 → ⊥ = λ e. c.if-stage-eq1.false (stage ∙ e) in
    let not-agreed : byte_at s c.args.at ≡ 2 → ⊥ = λ e. c.if-stage-eq2.false (stage ∙ e) in
    rw (
      c.get-5.ensures,
      c.get-4.ensures,
      c.get-3.ensures,
      c.get-2.ensures,
      c.get.ensures,
      stage,
    )
    (sym (no-work-kept s c.args.at (slice-bytes s c.type_inv.s) not-asked not-agreed))
