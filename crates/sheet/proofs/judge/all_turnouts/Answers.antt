use Rattle.std.proofs.Common.{◌≡◌, ◌∙◌, arith}
use Prim.Native.Nat.{min}
use lib.Pow.{pow_pos}
use Rattle.sets.proofs.Membership.{single-power}
use Rattle.sheet.proofs.judge.all_turnouts.Goals as goal

pub overflow_sub-result : goal.overflow_sub-result
overflow_sub-result c =
    let power = c.only.ensures ∙ single-power c.args.p c.if-p-lt64.true in
    rw power (pow_pos c.args.p)

pub returns-then-p-lt64 : goal.returns-then-p-lt64
returns-then-p-lt64 c =
    let p = c.args.p in
    let power = c.only.ensures ∙ single-power p c.if-p-lt64.true in
    let same : min p 64 ≡ p = omega arith in
    rw (power, same)
