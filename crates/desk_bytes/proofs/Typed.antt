-- The desk that stands in bytes has numbers of their machine types.
use Rattle.std.specs.Prelude.{None}
use mathlib.Core.Path.{◌≡◌, refl}
use mathlib.Core.Bool.{Bool, true, false}
use mathlib.Core.List.{List, [], ◌∷◌, map}
use Prim.Native.Nat.{ℕ, zero, suc, ◌+◌}
use lib.Dec.{eqb, lit<}
use lib.ListN.{get_or}
use Rattle.bigendian.specs.BigEndian.{Bytes, byte_at}
use Rattle.bigendian.proofs.Places.{number_lt}
use Rattle.zone.specs.declared.Work.TheVariants.{NoWork}
use Rattle.zone.specs.declared.Zone.{Zone}
use Rattle.zone.specs.Zone.{no_zone}
use Rattle.desk_bytes.specs.Typed.{TypedWork, TypedMovement, TypedZone, TypedDesk}
use Rattle.desk_bytes.specs.Encoding.{work_in, movement_in, zone_in, desk_in}

-- what stands in bytes has numbers of their machine types
pub no-work-typed : TypedWork NoWork
no-work-typed = record { form = lit< tt; set = lit< tt; since = lit< tt; opened = lit< tt }

pub no-movement-typed : TypedMovement None
no-movement-typed =
    record { train = lit< tt; cleared = lit< tt; efficient = lit< tt; keys = lit< tt }

pub work-typed : (s : List ℕ) (at : ℕ) → Bytes s → TypedWork (work_in s at)
unfolding work_in
work-typed s at byte = go (eqb (byte_at s at) 1) refl (eqb (byte_at s at) 2) refl
  where
    go :
        (one : Bool) → eqb (byte_at s at) 1 ≡ one → (two : Bool) → eqb (byte_at s at) 2 ≡ two →
        TypedWork (work_in s at)
    go true p two q =
        rw p
        (record {
          form = number_lt 4 s (at + 2) byte;
          set = number_lt 8 s (at + 6) byte;
          since = lit< tt;
          opened = lit< tt;
        })
    go false p true q =
        rw (p, q)
        (record {
          form = number_lt 4 s (at + 2) byte;
          set = number_lt 8 s (at + 6) byte;
          since = number_lt 4 s (at + 14) byte;
          opened = number_lt 8 s (at + 18) byte;
        })
    go false p false q = rw (p, q) no-work-typed

pub movement-typed : (s : List ℕ) (at : ℕ) → Bytes s → TypedMovement (movement_in s at)
unfolding movement_in
movement-typed s at byte = go (eqb (byte_at s at) 1) refl
  where
    go : (one : Bool) → eqb (byte_at s at) 1 ≡ one → TypedMovement (movement_in s at)
    go true p =
        rw p
        (record {
          train = number_lt 4 s (at + 3) byte;
          cleared = number_lt 8 s (at + 7) byte;
          efficient = number_lt 8 s (at + 15) byte;
          keys = number_lt 8 s (at + 28) byte;
        })
    go false p = rw p no-movement-typed

zone-typed : (s : List ℕ) (at : ℕ) → Bytes s → TypedZone (zone_in s at)
unfolding zone_in
zone-typed s at byte = record {
  work = work-typed s at byte;
  movement = movement-typed s (at + 26) byte;
  time = number_lt 4 s (at + 50) byte;
}

-- each zone of a list, and what stands past its end
abbrev pub Each : List Zone → Type 0
Each l = (n : ℕ) → TypedZone (get_or l n no_zone)

pub each_none : Each []
each_none n = record { work = no-work-typed; movement = no-movement-typed; time = lit< tt }

pub each_next : (z : Zone) (l : List Zone) → TypedZone z → Each l → Each (z ∷ l)
each_next z l first rest zero = first
each_next z l first rest (suc n) = rest n

-- the zones that stand at given places of bytes
zones-typed : (s : List ℕ) → Bytes s → (places : List ℕ) → Each (map (zone_in s) places)
zones-typed s byte [] = each_none
zones-typed s byte (at ∷ places) =
    each_next (zone_in s at) (map (zone_in s) places)
    (zone-typed s at byte)
    (zones-typed s byte places)

pub decoded-typed : (s : List ℕ) → Bytes s → TypedDesk (desk_in s)
unfolding desk_in
decoded-typed s byte = record {
  zones = refl;
  each = zones-typed s byte (8 ∷ 72 ∷ 136 ∷ 200 ∷ 264 ∷ 328 ∷ 392 ∷ 456 ∷ []);
}
