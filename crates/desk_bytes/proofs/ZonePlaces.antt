-- The place of zone k in the bytes of a desk: it is read there, and what is stored there is put
-- into the desk.
use mathlib.Core.Path.{◌≡◌, refl, sym, ap, ◌∙◌}
use mathlib.Core.Bool.{true}
use mathlib.Core.List.{List, [], ◌∷◌, ◌++◌}
use Prim.Native.Nat.{ℕ, zero, suc, ◌+◌, ◌*◌, ◌<◌}
use native.Mathlib.Nat.{zero-add, suc-add}
use native.Mathlib.Omega.{arith}
use borrow.Author.Tests.{lt-ltb}
use lib.ListN.{length, get_or, set, length-set}
use lib.Seq.{sets}
use Rattle.zone.specs.declared.Zone.{Zone}
use Rattle.desk.specs.declared.Desk.{Desk}
use Rattle.zone.specs.Zone.{no_zone}
use Rattle.desk.specs.Desk.{zone_at}
use Rattle.desk_bytes.specs.Encoding.{
  work_bytes,
  movement_bytes,
  last_bytes,
  zone_bytes,
  zones_from,
  head_bytes,
  desk_bytes,
  stored_zone,
  zone_in,
  desk_in,
  is_desk,
}
use Rattle.desk_bytes.proofs.RoundTrip.{zones_at, zones_at-all, desk-encodes}

-- the zones that stand in n places, 64 bytes each
abbrev zones_in : List ℕ → ℕ → ℕ → List Zone
zones_in s at zero = []
zones_in s at (suc n) = zone_in s at ∷ zones_in s (at + 64) n

zone-among : (s : List ℕ) (at n k : ℕ) → k < n
    → get_or (zones_in s at n) k no_zone ≡ zone_in s (at + 64 * k)
zone-among s at zero k more = absurd (omega arith)
zone-among s at (suc n) zero more =
    let here : at ≡ at + 64 * 0 = omega arith in
    ap (zone_in s) here
zone-among s at (suc n) (suc k) more =
    let left : k < n = omega arith in
    let place : at + 64 + 64 * k ≡ at + 64 * suc k = omega arith in
    zone-among s (at + 64) n k left ∙ ap (zone_in s) place

-- zone k of the desk that stands in bytes stands in its place
pub zone-place : (s : List ℕ) (k : ℕ) → k < 8 → zone_at (desk_in s) k ≡ zone_in s (8 + 64 * k)
unfolding desk_in
zone-place s k more = zone-among s 8 8 k more

-- a store after the first bytes leaves them
sets-next : (x : ℕ) (l : List ℕ) (i : ℕ) (vs : List ℕ) → sets (x ∷ l) (suc i) vs ≡ x ∷ sets l i vs
sets-next x l i [] = refl
sets-next x l i (v ∷ vs) = sets-next x (set l i v) (suc i) vs

sets-after : (xs ys : List ℕ) (i : ℕ) (vs : List ℕ)
    → sets (xs ++ ys) (length xs + i) vs ≡ xs ++ sets ys i vs
sets-after [] ys i vs = rw zero-add
sets-after (x ∷ xs) ys i vs =
    ap (λ (p : ℕ). sets (x ∷ (xs ++ ys)) p vs) (suc-add (length xs) i)
    ∙ sets-next x (xs ++ ys) (length xs + i) vs
    ∙ ap (λ (l : List ℕ). x ∷ l) (sets-after xs ys i vs)

-- the bytes of zones, one after the other
abbrev zones_bytes : List Zone → List ℕ
zones_bytes [] = []
zones_bytes (z ∷ l) = zone_bytes z ++ zones_bytes l

zones-bytes : (d : Desk) (k n : ℕ) → zones_from d k n ≡ zones_bytes (zones_at d.zones k n)
unfolding zones_from
zones-bytes d k zero = refl
zones-bytes d k (suc n) = ap (λ (l : List ℕ). zone_bytes (zone_at d k) ++ l) (zones-bytes d (k + 1) n)

desk-zones : (d : Desk) → length d.zones ≡ 8 → zones_from d 0 8 ≡ zones_bytes d.zones
desk-zones d eight =
    let all : zones_at d.zones 0 8 ≡ d.zones = rw eight at (zones_at-all d.zones) in
    zones-bytes d 0 8 ∙ ap zones_bytes all

zone-set : (l : List Zone) (k : ℕ) (z : Zone) → k < length l
    → sets (zones_bytes l) (64 * k) (zone_bytes z) ≡ zones_bytes (set l k z)
unfolding zone_bytes work_bytes movement_bytes last_bytes
zone-set [] k z more = absurd (omega arith)
zone-set (y ∷ l) zero z more = refl
zone-set (y ∷ l) (suc k) z more =
    let left : k < length l = omega arith in
    let place : 64 * suc k ≡ length (zone_bytes y) + 64 * k = omega arith in
    ap (λ (p : ℕ). sets (zone_bytes y ++ zones_bytes l) p (zone_bytes z)) place
    ∙ sets-after (zone_bytes y) (zones_bytes l) (64 * k) (zone_bytes z)
    ∙ ap (λ (r : List ℕ). zone_bytes y ++ r) (zone-set l k z left)

-- storing one zone is encoding the desk with that zone put in
pub zone-stored : (s : List ℕ) (k : ℕ) (z : Zone) → is_desk s ≡ true → k < 8
    → stored_zone s k z ≡ desk_bytes (record { zones = set (desk_in s).zones k z })
unfolding desk_bytes desk_in
zone-stored s k z told more =
    let d = desk_in s in
    let next : Desk = record { zones = set d.zones k z } in
    let eight : length next.zones ≡ 8 = length-set d.zones k z in
    let own : desk_bytes d ≡ head_bytes ++ zones_bytes d.zones =
    ap (λ (l : List ℕ). head_bytes ++ l) (desk-zones d refl) in
    let after-head = sets-after head_bytes (zones_bytes d.zones) (64 * k) (zone_bytes z) in
    let zones = zone-set d.zones k z more ∙ sym (desk-zones next eight) in
    rw (lt-ltb k 8 more)
    (ap (λ (l : List ℕ). sets l (8 + 64 * k) (zone_bytes z)) (desk-encodes s told ∙ own)
    ∙ after-head
    ∙ ap (λ (l : List ℕ). head_bytes ++ l) zones)
