use Rattle.std.proofs.Common.{◌≡◌, List, ℕ, ◌+◌, ◌*◌, ◌-◌, sym, ap, ◌∙◌, arith}
use Rattle.std.proofs.lemmas.List.Edits.{sets}
use Rattle.desk_bytes.specs.Encoding.{zones_from}
use Rattle.desk_bytes.proofs.Stores.{zones-next}
use Rattle.desk_bytes.proofs.storing.put_zones.Goals as goal

pub loop-k-preserved : goal.loop-k-preserved
loop-k-preserved c =
    let d = c.args.d in
    let l = c.loop-k in
    let left = zones_from d (l.k + 1) (8 - (l.k + 1)) in
    ap (λ (s : List ℕ). sets s (8 + 64 * (l.k + 1)) left) c.put_zone.ensures
    ∙ sym (zones-next d l.s l.k c.loop-k-test.true)
    ∙ l.invariant

pub returns : goal.returns
unfolding zones_from
returns c =
    let d = c.args.d in
    let l = c.loop-k in
    let ended : l.k ≡ 8 = omega arith in
    sym (ap (λ (k : ℕ). sets l.s (8 + 64 * k) (zones_from d k (8 - k))) ended) ∙ l.invariant
