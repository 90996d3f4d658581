-- Storing part by part: bytes stored one part after the other are the bytes of the whole.
use mathlib.Core.List.{List}
use mathlib.Core.Path.{◌≡◌, ap, ◌∙◌}
use Prim.Native.Nat.{ℕ, suc, ◌+◌, ◌*◌, ◌-◌, ◌<◌}
use native.Mathlib.Omega.{arith}
use lib.ListN.{length}
use lib.Seq.{sets}
use Rattle.bigendian.proofs.Places.{sets-append}
use Rattle.desk.specs.declared.Desk.{Desk}
use Rattle.desk.specs.Desk.{zone_at}
use Rattle.desk_bytes.specs.Encoding.{work_bytes, movement_bytes, last_bytes, zone_bytes}
use Rattle.desk_bytes.specs.Encoding.{zones_from}

-- the zones from k on: one zone, then those from k + 1 on
pub zones-next :
    (d : Desk) (s : List ℕ) (k : ℕ) → k < 8 →
    sets s (8 + 64 * k) (zones_from d k (8 - k))
    ≡ sets (sets s (8 + 64 * k) (zone_bytes (zone_at d k))) (8 + 64 * (k + 1))
    (zones_from d (k + 1) (8 - (k + 1)))
unfolding zones_from zone_bytes work_bytes movement_bytes last_bytes
zones-next d s k more =
    let left : 8 - k ≡ suc (8 - (k + 1)) = omega arith in
    let place : 8 + 64 * k + length (zone_bytes (zone_at d k)) ≡ 8 + 64 * (k + 1) = omega arith in
    let rest = zones_from d (k + 1) (8 - (k + 1)) in
    ap (λ (n : ℕ). sets s (8 + 64 * k) (zones_from d k n)) left
    ∙ sets-append s (8 + 64 * k) (zone_bytes (zone_at d k)) rest
    ∙ ap (λ (p : ℕ). sets (sets s (8 + 64 * k) (zone_bytes (zone_at d k))) p rest) place
