use Rattle.std.proofs.Common.{◌≡◌, Bool, ℕ, ◌+◌, ◌*◌, ◌-◌, sym, ap, ◌∙◌, arith}
use mathlib.Core.Bool.{◌&&◌}
use Rattle.desk_bytes.specs.Encoding.{zones_from, desk_in, same_bytes}
use Rattle.desk_bytes.specs.StandAt.{stand_at}
use Rattle.desk_bytes.proofs.Kept.{zones-kept}
use Rattle.desk_bytes.proofs.checking.zones_kept.Goals as goal

pub returns-then-not-zone_kept : goal.returns-then-not-zone_kept
returns-then-not-zone_kept c =
    let s = c.args.s.now in
    let k = c.loop-k.k in
    let zone = c.zone_kept in
    let bad = sym zone.ensures ∙ c.if-not-zone_kept.true in
    let rest = stand_at s (8 + 64 * (k + 1)) (zones_from (desk_in s) (k + 1) (8 - (k + 1))) in
    sym (ap (λ (b : Bool). b && rest) bad)
    ∙ sym (zones-kept s k c.loop-k-test.true)
    ∙ c.loop-k.invariant

pub loop-k-preserved : goal.loop-k-preserved
loop-k-preserved c =
    let s = c.args.s.now in
    let k = c.loop-k.k in
    let zone = c.zone_kept in
    let good = sym zone.ensures ∙ c.if-not-zone_kept.false in
    let rest = stand_at s (8 + 64 * (k + 1)) (zones_from (desk_in s) (k + 1) (8 - (k + 1))) in
    sym (ap (λ (b : Bool). b && rest) good)
    ∙ sym (zones-kept s k c.loop-k-test.true)
    ∙ c.loop-k.invariant

pub returns : goal.returns
unfolding zones_from same_bytes
returns c =
    let s = c.args.s.now in
    let ended : c.loop-k.k ≡ 8 = omega arith in
    sym (ap (λ (k : ℕ). stand_at s (8 + 64 * k) (zones_from (desk_in s) k (8 - k))) ended)
    ∙ c.loop-k.invariant
