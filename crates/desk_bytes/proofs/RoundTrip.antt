-- A desk, encoded and decoded, is the same desk, for every desk that code can hold: eight zones,
-- numbers of their machine types. Bytes that are a desk's are the encoding of the desk that stands
-- in them.
use Rattle.std.specs.Prelude.{None, Some}
use mathlib.Core.Path.{◌≡◌, refl, ap, ◌∙◌}
use mathlib.Core.Bool.{Bool, true, false, cond}
use mathlib.Core.Logic.{◌↔◌}
use mathlib.Core.List.{List, [], ◌∷◌, ◌++◌}
use Prim.Native.Nat.{ℕ, zero, suc, ◌+◌}
use native.Mathlib.Nat.{suc-add, mod-eq_of_lt}
use lib.Dec.{eqb}
use lib.ListN.{length, get_or, drop}
use Rattle.bigendian.specs.BigEndian.{Bytes}
use Rattle.bigendian.proofs.Numbers.{value-bytes}
use Rattle.zone.specs.declared.Work.{Work}
use Rattle.zone.specs.declared.Work.TheVariants.{NoWork, Asked, Agreed}
use Rattle.zone.specs.declared.Zone.{Zone}
use Rattle.desk.specs.declared.Desk.{Desk}
use Rattle.zone.specs.Movement.{Movement, key_set}
use Rattle.zone.specs.Zone.{no_zone}
use Rattle.desk.specs.Desk.{zone_at}
use Rattle.desk_bytes.specs.Encoding.{work_bytes, movement_bytes, last_bytes, zone_bytes}
use Rattle.desk_bytes.specs.Encoding.{zones_from, desk_bytes, work_in, movement_in, zone_in}
use Rattle.desk_bytes.specs.Encoding.{desk_in, is_desk}
use Rattle.desk_bytes.proofs.Same.{same-exactly}
use Rattle.desk_bytes.specs.Typed.{TypedWork, TypedMovement, TypedZone, TypedDesk}
use Rattle.desk_bytes.proofs.Typed.{decoded-typed}

pub length-desk_bytes : (d : Desk) → length (desk_bytes d) ≡ 520
unfolding desk_bytes zones_from zone_bytes work_bytes movement_bytes last_bytes
length-desk_bytes d = refl

-- what was written at the start of bytes is read there
work-read : (w : Work) → TypedWork w → (rest : List ℕ) → work_in (work_bytes w ++ rest) 0 ≡ w
unfolding work_in work_bytes
work-read NoWork fits rest = refl
work-read (Asked q) fits rest =
    let form = value-bytes 4 q.form ∙ mod-eq_of_lt fits.form in
    let set = value-bytes 8 q.set ∙ mod-eq_of_lt fits.set in
    λ i. Asked (record { form = form i; manner = q.manner; set = set i })
work-read (Agreed g) fits rest =
    let form = value-bytes 4 g.form ∙ mod-eq_of_lt fits.form in
    let set = value-bytes 8 g.set ∙ mod-eq_of_lt fits.set in
    let since = value-bytes 4 g.since ∙ mod-eq_of_lt fits.since in
    let opened = value-bytes 8 g.opened ∙ mod-eq_of_lt fits.opened in
    λ i. Agreed (record {
      form = form i;
      manner = g.manner;
      set = set i;
      since = since i;
      opened = opened i;
    })

-- a movement after the bytes of a zone's work and before the zone's last bytes, which have its keys
movement-read :
    (w : Work) (v : Movement) → TypedMovement v →
    (working : Bool) (time : ℕ) (rest : List ℕ) →
    movement_in (work_bytes w ++ (movement_bytes v ++ (last_bytes working time (key_set v) ++ rest))) 26
    ≡ v
unfolding movement_in work_bytes movement_bytes last_bytes
movement-read w None fits working time rest = refl
movement-read w (Some p) fits working time rest =
    let train = value-bytes 4 p.train ∙ mod-eq_of_lt fits.train in
    let cleared = value-bytes 8 p.cleared ∙ mod-eq_of_lt fits.cleared in
    let efficient = value-bytes 8 p.efficient ∙ mod-eq_of_lt fits.efficient in
    let keys = value-bytes 8 p.keys ∙ mod-eq_of_lt fits.keys in
    λ i. Some (record {
      train = train i;
      route = p.route;
      order = p.order;
      cleared = cleared i;
      efficient = efficient i;
      keys = keys i;
    })

recorder-read : (working : Bool) → eqb (cond working 1 0) 1 ≡ working
recorder-read true = refl
recorder-read false = refl

zone-read : (z : Zone) → TypedZone z → (rest : List ℕ) → zone_in (zone_bytes z ++ rest) 0 ≡ z
unfolding zone_in zone_bytes work_bytes movement_bytes last_bytes
zone-read z fits rest =
    let v = z.movement in
    let last = last_bytes z.recorder z.time (key_set v) ++ rest in
    let work = work-read z.work fits.work (movement_bytes v ++ last) in
    let movement = movement-read z.work v fits.movement z.recorder z.time rest in
    let recorder = recorder-read z.recorder in
    let time = value-bytes 4 z.time ∙ mod-eq_of_lt fits.time in
    λ i. record { work = work i; movement = movement i; recorder = recorder i; time = time i }

-- a zone is read from a place as from the start of what follows the place
zone-next : (b : ℕ) (s : List ℕ) (at : ℕ) → zone_in (b ∷ s) (suc at) ≡ zone_in s at
unfolding zone_in work_in movement_in
zone-next b s at = simp suc-add

zone-from : (at : ℕ) (s : List ℕ) → zone_in s at ≡ zone_in (drop at s) 0
unfolding zone_in work_in movement_in
zone-from zero s = refl
zone-from (suc at) [] = refl
zone-from (suc at) (b ∷ s) = zone-next b s at ∙ zone-from at s

-- n zones of a list from zone k on
abbrev pub zones_at : List Zone → ℕ → ℕ → List Zone
zones_at l k zero = []
zones_at l k (suc n) = get_or l k no_zone ∷ zones_at l (k + 1) n

zones_at-next : (z : Zone) (l : List Zone) (k n : ℕ) → zones_at (z ∷ l) (suc k) n ≡ zones_at l k n
zones_at-next z l k zero = refl
zones_at-next z l k (suc n) = rw (suc-add k 1, zones_at-next z l (k + 1) n)

pub zones_at-all : (l : List Zone) → zones_at l 0 (length l) ≡ l
zones_at-all [] = refl
zones_at-all (z ∷ l) = ap (λ (r : List Zone). z ∷ r) (zones_at-next z l 0 (length l) ∙ zones_at-all l)

-- zone k, read where the zones from k on begin
zone-back :
    (d : Desk) → TypedDesk d → (at k n : ℕ) → drop at (desk_bytes d) ≡ zones_from d k (suc n) →
    zone_in (desk_bytes d) at ≡ zone_at d k
unfolding zones_from
zone-back d fits at k n rest =
    zone-from at (desk_bytes d) ∙ ap (λ (s : List ℕ). zone_in s 0) rest
    ∙ zone-read (zone_at d k) (fits.each k) (zones_from d (k + 1) n)

-- a desk, encoded and decoded
pub decoded-encoded : (d : Desk) → TypedDesk d → desk_in (desk_bytes d) ≡ d
unfolding desk_in desk_bytes zones_from zone_bytes work_bytes movement_bytes last_bytes
decoded-encoded d fits =
    let z0 = zone-back d fits 8 0 7 refl in
    let z1 = zone-back d fits 72 1 6 refl in
    let z2 = zone-back d fits 136 2 5 refl in
    let z3 = zone-back d fits 200 3 4 refl in
    let z4 = zone-back d fits 264 4 3 refl in
    let z5 = zone-back d fits 328 5 2 refl in
    let z6 = zone-back d fits 392 6 1 refl in
    let z7 = zone-back d fits 456 7 0 refl in
    let same : zones_at d.zones 0 8 ≡ d.zones = rw fits.zones at (zones_at-all d.zones) in
    let parts : desk_in (desk_bytes d) ≡ record { zones = zones_at d.zones 0 8 } =
    λ i. record { zones = z0 i ∷ z1 i ∷ z2 i ∷ z3 i ∷ z4 i ∷ z5 i ∷ z6 i ∷ z7 i ∷ [] } in
    parts ∙ λ i. record { zones = same i }

-- what a desk encodes to is told to be a desk
pub encoded-is-desk : (d : Desk) → TypedDesk d → is_desk (desk_bytes d) ≡ true
unfolding is_desk
encoded-is-desk d fits =
    rw (decoded-encoded d fits) ((same-exactly (desk_bytes d) (desk_bytes d)).1 refl)

-- and what is told to be a desk is the encoding of the desk that stands in it
pub desk-encodes : (s : List ℕ) → is_desk s ≡ true → s ≡ desk_bytes (desk_in s)
unfolding is_desk
desk-encodes s told = (same-exactly s (desk_bytes (desk_in s))).0 told

pub desk-length : (s : List ℕ) → is_desk s ≡ true → length s ≡ 520
desk-length s told = ap length (desk-encodes s told) ∙ length-desk_bytes (desk_in s)

-- bytes are told to be a desk exactly when some desk encodes to them
pub desk-exactly :
    (s : List ℕ) → Bytes s → (is_desk s ≡ true) ↔ ((d : Desk) × TypedDesk d × (s ≡ desk_bytes d))
desk-exactly s byte = (
  λ told. (desk_in s, decoded-typed s byte, desk-encodes s told),
  λ e. ap is_desk e.2 ∙ encoded-is-desk e.0 e.1,
)
