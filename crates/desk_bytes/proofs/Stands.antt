-- Bytes that stand at a place of others: part after part, a number's bytes by the number, and so
-- the fields of a zone.
use mathlib.Core.Path.{◌≡◌, refl, sym, ap, ap₂, ◌∙◌}
use mathlib.Core.Bool.{Bool, cond, ◌&&◌, and_assoc}
use mathlib.Core.List.{List, [], ◌∷◌, ◌++◌}
use Prim.Native.Nat.{ℕ, suc, ◌+◌, ◌^◌, ◌<◌}
use native.Mathlib.Nat.{add-zero, mod-eq_of_lt}
use native.Mathlib.Omega.{arith}
use borrow.Author.Tests.{eqb-true, eq-eqb}
use lib.Dec.{eqb, lit<}
use lib.ListN.{length}
use Rattle.bigendian.specs.BigEndian.{Bytes, byte_at, bytes_at, be_bytes, be_value, number_at}
use Rattle.bigendian.proofs.Numbers.{length-be_bytes, value-bytes}
use Rattle.bigendian.proofs.Places.{bytes-number}
use Rattle.zone.specs.declared.Work.{Work}
use Rattle.zone.specs.declared.Zone.{Zone}
use Rattle.zone.specs.Work.{form_of, manner, work_set, agreed_at, open_set}
use Rattle.zone.specs.Movement.{Movement, train_of, order_of, cleared_set, efficient_set, key_set}
use Rattle.desk_bytes.specs.Encoding.{
  stage_of,
  work_bytes,
  standing_of,
  route_number,
  movement_bytes,
  last_bytes,
  zone_bytes,
  same_bytes,
}
use Rattle.desk_bytes.specs.StandAt.{stand_at}
use Rattle.desk_bytes.proofs.Same.{same_test}
use Rattle.desk_bytes.specs.Typed.{TypedWork, TypedMovement}

stand-append : (s : List ℕ) (at : ℕ) (xs ys : List ℕ)
    → stand_at s at (xs ++ ys) ≡ (stand_at s at xs && stand_at s (at + length xs) ys)
unfolding same_bytes
stand-append s at [] ys = rw add-zero
stand-append s at (x ∷ xs) ys =
    let first = eqb (byte_at s at) x in
    let more = stand_at s (at + 1) xs in
    let place : at + 1 + length xs ≡ at + suc (length xs) = omega arith in
    ap (λ (b : Bool). first && b) (stand-append s (at + 1) xs ys)
    ∙ ap (λ (p : ℕ). first && (more && stand_at s p ys)) place
    ∙ sym (and_assoc first more (stand_at s (at + suc (length xs)) ys))

-- a part stands there, and the rest from the place where the part ends
pub part-stands : (s : List ℕ) (at : ℕ) (xs : List ℕ) (to : ℕ) (rest : List ℕ) → at + length xs ≡ to
    → stand_at s at (xs ++ rest) ≡ (stand_at s at xs && stand_at s to rest)
part-stands s at xs to rest place =
    stand-append s at xs rest ∙ ap (λ (p : ℕ). stand_at s at xs && stand_at s p rest) place

-- the bytes of a number stand there exactly when it is the number there
pub number-stands : (w : ℕ) (s : List ℕ) (at n : ℕ) → Bytes s → n < 256 ^ w
    → stand_at s at (be_bytes w n) ≡ eqb (number_at w s at) n
number-stands w s at n byte fits =
    let number = number_at w s at in
    let width = ap (bytes_at s at) (length-be_bytes w n) in
    let own = sym (bytes-number w s at byte) in
    let value = value-bytes w n ∙ mod-eq_of_lt fits in
    sym
    (same_test (eqb number n) (bytes_at s at (length (be_bytes w n))) (be_bytes w n)
    (λ same. width ∙ own ∙ ap (be_bytes w) (eqb-true number n same))
    (λ there. eq-eqb number n (ap be_value (sym width ∙ there) ∙ value)))

-- a byte stands there, and then the rest
byte-then : (s : List ℕ) (at x to : ℕ) (rest : List ℕ) {told : Bool} → at + 1 ≡ to
    → stand_at s to rest ≡ told → stand_at s at (x ∷ rest) ≡ (eqb (byte_at s at) x && told)
unfolding same_bytes
byte-then s at x to rest place later =
    ap (λ (p : ℕ). eqb (byte_at s at) x && stand_at s p rest) place
    ∙ ap (λ (b : Bool). eqb (byte_at s at) x && b) later

-- a number stands there, and then the rest
number-then : (w : ℕ) (s : List ℕ) (at n to : ℕ) (rest : List ℕ) {told : Bool} → Bytes s
    → n < 256 ^ w → at + w ≡ to → stand_at s to rest ≡ told
    → stand_at s at (be_bytes w n ++ rest) ≡ (eqb (number_at w s at) n && told)
number-then w s at n to rest byte fits place later =
    let end = ap (λ (v : ℕ). at + v) (length-be_bytes w n) ∙ place in
    part-stands s at (be_bytes w n) to rest end
    ∙ ap₂ (λ (a b : Bool). a && b) (number-stands w s at n byte fits) later

-- work stands there exactly when each of its fields does
pub work-stands : (s : List ℕ) (at : ℕ) (w : Work) → Bytes s → TypedWork w
    → stand_at s at (work_bytes w)
    ≡ (eqb (byte_at s at) (stage_of w)
    && eqb (byte_at s (at + 1)) (manner w)
    && eqb (number_at 4 s (at + 2)) (form_of w)
    && eqb (number_at 8 s (at + 6)) (work_set w)
    && eqb (number_at 4 s (at + 14)) (agreed_at w)
    && eqb (number_at 8 s (at + 18)) (open_set w))
unfolding work_bytes
work-stands s at w byte fits =
    let r5 = be_bytes 8 (open_set w) in
    let r4 = be_bytes 4 (agreed_at w) ++ r5 in
    let r3 = be_bytes 8 (work_set w) ++ r4 in
    let r2 = be_bytes 4 (form_of w) ++ r3 in
    let opened = number-stands 8 s (at + 18) (open_set w) byte fits.opened in
    let p18 : at + 14 + 4 ≡ at + 18 = omega arith in
    let since = number-then 4 s (at + 14) (agreed_at w) (at + 18) r5 byte fits.since p18 opened in
    let p14 : at + 6 + 8 ≡ at + 14 = omega arith in
    let set = number-then 8 s (at + 6) (work_set w) (at + 14) r4 byte fits.set p14 since in
    let p6 : at + 2 + 4 ≡ at + 6 = omega arith in
    let form = number-then 4 s (at + 2) (form_of w) (at + 6) r3 byte fits.form p6 set in
    let recorded = byte-then s (at + 1) (manner w) (at + 2) r2 (omega arith) form in
    let all = byte-then s at (stage_of w) (at + 1) (manner w ∷ r2) refl recorded in
    simp and_assoc all

-- and so does a movement
pub movement-stands : (s : List ℕ) (at : ℕ) (v : Movement) → Bytes s → TypedMovement v
    → stand_at s at (movement_bytes v)
    ≡ (eqb (byte_at s at) (standing_of v)
    && eqb (byte_at s (at + 1)) (route_number v)
    && eqb (byte_at s (at + 2)) (order_of v)
    && eqb (number_at 4 s (at + 3)) (train_of v)
    && eqb (number_at 8 s (at + 7)) (cleared_set v)
    && eqb (number_at 8 s (at + 15)) (efficient_set v))
unfolding movement_bytes
movement-stands s at v byte fits =
    let r5 = be_bytes 8 (efficient_set v) in
    let r4 = be_bytes 8 (cleared_set v) ++ r5 in
    let r3 = be_bytes 4 (train_of v) ++ r4 in
    let r2 = order_of v ∷ r3 in
    let efficient = number-stands 8 s (at + 15) (efficient_set v) byte fits.efficient in
    let p15 : at + 7 + 8 ≡ at + 15 = omega arith in
    let cleared =
    number-then 8 s (at + 7) (cleared_set v) (at + 15) r5 byte fits.cleared p15 efficient in
    let p7 : at + 3 + 4 ≡ at + 7 = omega arith in
    let train = number-then 4 s (at + 3) (train_of v) (at + 7) r4 byte fits.train p7 cleared in
    let order = byte-then s (at + 2) (order_of v) (at + 3) r3 (omega arith) train in
    let route = byte-then s (at + 1) (route_number v) (at + 2) r2 (omega arith) order in
    let all = byte-then s at (standing_of v) (at + 1) (route_number v ∷ r2) refl route in
    simp and_assoc all

-- and so do the recorder, the time, the keys and the reserved bytes
pub last-stands : (s : List ℕ) (at : ℕ) (working : Bool) (time keys : ℕ) → Bytes s
    → time < 2 ^ 32 → keys < 2 ^ 64
    → stand_at s at (last_bytes working time keys)
    ≡ (eqb (byte_at s at) (cond working 1 0)
    && eqb (number_at 4 s (at + 1)) time
    && eqb (number_at 8 s (at + 5)) keys
    && eqb (number_at 2 s (at + 13)) 0)
unfolding last_bytes
last-stands s at working time keys byte time-fits keys-fit =
    let r2 = be_bytes 2 0 in
    let r1 = be_bytes 8 keys ++ r2 in
    let end = number-stands 2 s (at + 13) 0 byte (lit< tt) in
    let p13 : at + 5 + 8 ≡ at + 13 = omega arith in
    let used = number-then 8 s (at + 5) keys (at + 13) r2 byte keys-fit p13 end in
    let p5 : at + 1 + 4 ≡ at + 5 = omega arith in
    let clock = number-then 4 s (at + 1) time (at + 5) r1 byte time-fits p5 used in
    let all = byte-then s at (cond working 1 0) (at + 1) (be_bytes 4 time ++ r1) refl clock in
    simp and_assoc all

-- a zone stands there when its three parts do
pub zone-stands : (s : List ℕ) (at : ℕ) (z : Zone)
    → stand_at s at (zone_bytes z)
    ≡ (stand_at s at (work_bytes z.work)
    && (stand_at s (at + 26) (movement_bytes z.movement)
    && stand_at s (at + 49) (last_bytes z.recorder z.time (key_set z.movement))))
unfolding zone_bytes work_bytes movement_bytes
zone-stands s at z =
    let work = work_bytes z.work in
    let movement = movement_bytes z.movement in
    let last = last_bytes z.recorder z.time (key_set z.movement) in
    let p49 : at + 26 + length movement ≡ at + 49 = omega arith in
    let later = part-stands s (at + 26) movement (at + 49) last p49 in
    part-stands s at work (at + 26) (movement ++ last) refl
    ∙ ap (λ (b : Bool). stand_at s at work && b) later
