-- Which bytes are a desk's, by their fields: what each test of src/checking.rt tells.
use mathlib.Core.Path.{◌≡◌, refl, sym, ap, ◌∙◌}
use mathlib.Core.Bool.{Bool, true, false, cond, ◌&&◌, ◌||◌, and_assoc}
use mathlib.Core.List.{List}
use Prim.Native.Nat.{ℕ, suc, ◌+◌, ◌*◌, ◌-◌, ◌≤◌, ◌<◌}
use native.Mathlib.Omega.{arith}
use borrow.Author.Tests.{eqb-true, eqb-false, eq-eqb, ne_eqb, lt-ltb, le-ltb}
use lib.Dec.{eqb, ltb, lit<}
use lib.ListN.{length, get_or}
use mir.Syntax.{w8}
use mir.Val.{Fits}
use Rattle.bigendian.specs.BigEndian.{Bytes, byte_at, bytes_at, number_at}
use Rattle.bigendian.proofs.Places.{number_lt, bytes_at-all}
use Rattle.zone.specs.declared.Zone.{Zone}
use Rattle.zone.specs.Movement.{key_set}
use Rattle.desk.specs.Desk.{zone_at}
use Rattle.desk_bytes.specs.Encoding.{
  work_bytes,
  movement_bytes,
  last_bytes,
  zone_bytes,
  zones_from,
  head_bytes,
  desk_bytes,
  work_in,
  movement_in,
  zone_in,
  desk_in,
  same_bytes,
  is_desk,
}
use Rattle.desk_bytes.specs.StandAt.{stand_at}
use Rattle.desk_bytes.proofs.Typed.{work-typed, movement-typed}
use Rattle.desk_bytes.proofs.RoundTrip.{desk-length, length-desk_bytes}
use Rattle.desk_bytes.proofs.ZonePlaces.{zone-place}
use Rattle.desk_bytes.proofs.Stands.{
  part-stands,
  number-stands,
  work-stands,
  movement-stands,
  last-stands,
  zone-stands,
}

-- what code knows of a slice of bytes
pub slice-bytes : (s : List ℕ) → ((i : ℕ) → Fits w8 (get_or s i 0)) → Bytes s
slice-bytes s known i = omega (arith, known i)

eqb-self : (n : ℕ) → eqb n n ≡ true
eqb-self n = eq-eqb n n refl

-- the work that is read there: asked, agreed, or none
pub asked-kept : (s : List ℕ) (at : ℕ) → Bytes s → byte_at s at ≡ 1
    → stand_at s at (work_bytes (work_in s at))
    ≡ (eqb (number_at 4 s (at + 14)) 0 && eqb (number_at 8 s (at + 18)) 0)
unfolding work_in
asked-kept s at byte stage =
    let one = eq-eqb (byte_at s at) 1 stage in
    work-stands s at (work_in s at) byte (work-typed s at byte) ∙ rw (one, one) (simp eqb-self)

pub agreed-kept : (s : List ℕ) (at : ℕ) → Bytes s → byte_at s at ≡ 2
    → stand_at s at (work_bytes (work_in s at)) ≡ true
unfolding work_in
agreed-kept s at byte stage =
    let two = eq-eqb (byte_at s at) 2 stage in
    let not-one : eqb (byte_at s at) 1 ≡ false = ne_eqb (byte_at s at) 1 (λ one. omega arith) in
    work-stands s at (work_in s at) byte (work-typed s at byte)
    ∙ rw (not-one, two, two) (simp eqb-self)

pub no-work-kept : (s : List ℕ) (at : ℕ) → Bytes s → (byte_at s at ≡ 1 → ⊥) → (byte_at s at ≡ 2 → ⊥)
    → stand_at s at (work_bytes (work_in s at))
    ≡ (eqb (byte_at s at) 0
    && eqb (byte_at s (at + 1)) 0
    && eqb (number_at 4 s (at + 2)) 0
    && eqb (number_at 8 s (at + 6)) 0
    && (eqb (number_at 4 s (at + 14)) 0 && eqb (number_at 8 s (at + 18)) 0))
unfolding work_in
no-work-kept s at byte not-one not-two =
    work-stands s at (work_in s at) byte (work-typed s at byte)
    ∙ rw (ne_eqb (byte_at s at) 1 not-one, ne_eqb (byte_at s at) 2 not-two) (simp and_assoc)

-- the movement that is read there: one that stands, or none
pub standing-kept : (s : List ℕ) (at : ℕ) → Bytes s → byte_at s at ≡ 1
    → stand_at s at (movement_bytes (movement_in s at)) ≡ true
unfolding movement_in
standing-kept s at byte first =
    let one = eq-eqb (byte_at s at) 1 first in
    movement-stands s at (movement_in s at) byte (movement-typed s at byte)
    ∙ rw (one, one) (simp eqb-self)

pub no-movement-kept : (s : List ℕ) (at : ℕ) → Bytes s → (byte_at s at ≡ 1 → ⊥)
    → stand_at s at (movement_bytes (movement_in s at))
    ≡ (eqb (byte_at s at) 0
    && eqb (byte_at s (at + 1)) 0
    && eqb (byte_at s (at + 2)) 0
    && eqb (number_at 4 s (at + 3)) 0
    && eqb (number_at 8 s (at + 7)) 0
    && eqb (number_at 8 s (at + 15)) 0)
unfolding movement_in
no-movement-kept s at byte not-one =
    movement-stands s at (movement_in s at) byte (movement-typed s at byte)
    ∙ rw (ne_eqb (byte_at s at) 1 not-one)

-- its keys: those of a movement that stands, whatever they are, or none
pub keys_kept : (s : List ℕ) (at : ℕ)
    → eqb (number_at 8 s (at + 28)) (key_set (movement_in s at))
    ≡ (eqb (byte_at s at) 1 || eqb (number_at 8 s (at + 28)) 0)
unfolding movement_in
keys_kept s at = go (eqb (byte_at s at) 1) refl
  where
    go : (one : Bool) → eqb (byte_at s at) 1 ≡ one
        → eqb (number_at 8 s (at + 28)) (key_set (movement_in s at))
        ≡ (eqb (byte_at s at) 1 || eqb (number_at 8 s (at + 28)) 0)
    go true p = rw p (eqb-self (number_at 8 s (at + 28)))
    go false p = rw p

-- a recorder's byte that is written as it was read is 0 or 1
recorder-kept : (b : ℕ) → eqb b (cond (eqb b 1) 1 0) ≡ ltb b 2
recorder-kept b = go (eqb b 1) refl (eqb b 0) refl
  where
    go : (one : Bool) → eqb b 1 ≡ one → (none : Bool) → eqb b 0 ≡ none
        → eqb b (cond (eqb b 1) 1 0) ≡ ltb b 2
    go true p none q =
        let is_one : b ≡ 1 = eqb-true b 1 p in
        rw (p, p, lt-ltb b 2 (omega arith))
    go false p true q =
        let is_zero : b ≡ 0 = eqb-true b 0 q in
        rw (p, q, lt-ltb b 2 (omega arith))
    go false p false q =
        let more : 2 ≤ b = omega (arith, eqb-false b 1 p, eqb-false b 0 q) in
        rw (p, q, le-ltb b 2 more)

-- a zone: its work, its movement, the recorder's byte, the keys, the reserved bytes
pub zone-kept : (s : List ℕ) (at : ℕ) → Bytes s
    → stand_at s at (zone_bytes (zone_in s at))
    ≡ (stand_at s at (work_bytes (work_in s at))
    && stand_at s (at + 26) (movement_bytes (movement_in s (at + 26)))
    && ltb (byte_at s (at + 49)) 2
    && eqb (number_at 8 s (at + 26 + 28)) (key_set (movement_in s (at + 26)))
    && eqb (number_at 2 s (at + 62)) 0)
unfolding zone_in
zone-kept s at byte =
    let z = zone_in s at in
    let p50 : at + 49 + 1 ≡ at + 50 = omega arith in
    let p54 : at + 49 + 5 ≡ at + 26 + 28 = omega arith in
    let p62 : at + 49 + 13 ≡ at + 62 = omega arith in
    let keys = key_set z.movement in
    let time-fits = number_lt 4 s (at + 50) byte in
    let keys-fit = (movement-typed s (at + 26) byte).keys in
    let last = last-stands s (at + 49) z.recorder z.time keys byte time-fits keys-fit in
    let recorder = recorder-kept (byte_at s (at + 49)) in
    zone-stands s at z
    ∙ rw (last, p50, p54, p62, recorder, eqb-self z.time) (simp and_assoc)

-- the zones from k on: one zone, then those from k + 1 on
pub zones-kept : (s : List ℕ) (k : ℕ) → k < 8
    → stand_at s (8 + 64 * k) (zones_from (desk_in s) k (8 - k))
    ≡ (stand_at s (8 + 64 * k) (zone_bytes (zone_in s (8 + 64 * k)))
    && stand_at s (8 + 64 * (k + 1)) (zones_from (desk_in s) (k + 1) (8 - (k + 1))))
unfolding zones_from zone_bytes work_bytes movement_bytes last_bytes
zones-kept s k more =
    let d = desk_in s in
    let at = 8 + 64 * k in
    let next = 8 + 64 * (k + 1) in
    let rest = zones_from d (k + 1) (8 - (k + 1)) in
    let left : 8 - k ≡ suc (8 - (k + 1)) = omega arith in
    let place : at + length (zone_bytes (zone_at d k)) ≡ next = omega arith in
    ap (λ (n : ℕ). stand_at s at (zones_from d k n)) left
    ∙ part-stands s at (zone_bytes (zone_at d k)) next rest place
    ∙ ap (λ (z : Zone). stand_at s at (zone_bytes z) && stand_at s next rest) (zone-place s k more)

-- a desk: 520 bytes, the head, the zones
pub desk-kept : (s : List ℕ) → Bytes s → length s ≡ 520
    → is_desk s ≡ (eqb (number_at 8 s 0) 72057594037927936 && stand_at s 8 (zones_from (desk_in s) 0 8))
unfolding is_desk desk_bytes
desk-kept s byte whole =
    let d = desk_in s in
    let width = whole ∙ sym (length-desk_bytes d) in
    let all = sym (bytes_at-all s) ∙ ap (bytes_at s 0) width in
    let head = number-stands 8 s 0 72057594037927936 byte (lit< tt) in
    ap (λ (l : List ℕ). same_bytes l (desk_bytes d)) all
    ∙ part-stands s 0 head_bytes 8 (zones_from d 0 8) refl
    ∙ ap (λ (b : Bool). b && stand_at s 8 (zones_from d 0 8)) head

pub other_length : (s : List ℕ) → (length s ≡ 520 → ⊥) → is_desk s ≡ false
other_length s other = go (is_desk s) refl
  where
    go : (told : Bool) → is_desk s ≡ told → is_desk s ≡ false
    go true p = absurd (other (desk-length s p))
    go false p = p
