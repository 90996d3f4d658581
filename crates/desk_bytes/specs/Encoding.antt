-- A desk as 520 bytes, UNIT-1 (docs/RULES.md), and the desk that stands in bytes. Numbers are
-- big-endian (SET-3); fields that the stage of the work, or a zone without a movement, does not
-- have are 0.
use Rattle.std.specs.Prelude.{Bool, true, false, cond, ◌&&◌, List, [], ◌∷◌, ◌++◌, ℕ, zero, suc, ◌+◌, ◌*◌}
use Rattle.std.specs.Prelude.{eqb, ltb, replicate, None, Some}
use Rattle.std.proofs.lemmas.List.Edits.{sets}
use Rattle.bigendian.specs.BigEndian.{byte_at, number_at, be_bytes}
use Rattle.zone.specs.declared.Work.{Work}
use Rattle.zone.specs.declared.Work.TheVariants.{NoWork, Asked, Agreed}
use Rattle.zone.specs.declared.Zone.{Zone}
use Rattle.zone.specs.Work.{form_of, manner, work_set, agreed_at, open_set}
use Rattle.zone.specs.Movement.{Movement, train_of, order_of, cleared_set, efficient_set, key_set}
use Rattle.desk.specs.declared.Desk.{Desk}
use Rattle.desk.specs.Desk.{zone_at}

-- the work of a zone, 26 bytes: its stage, the manner, the form (4 bytes), the turnouts (8), when
-- it was agreed to (4), the turnouts open to work (8)
abbrev pub work_fields : ℕ → ℕ → ℕ → ℕ → ℕ → ℕ → List ℕ
work_fields stage manner form set since opened =
    stage ∷ manner ∷ (be_bytes 4 form ++ (be_bytes 8 set ++ (be_bytes 4 since ++ be_bytes 8 opened)))

-- 0 no work, 1 asked, 2 agreed
abbrev pub stage_of : Work → ℕ
stage_of NoWork = 0
stage_of (Asked q) = 1
stage_of (Agreed g) = 2

unfoldable pub work_bytes : Work → List ℕ
work_bytes w = work_fields (stage_of w) (manner w) (form_of w) (work_set w) (agreed_at w) (open_set w)

-- the movement of a zone without its keys, 23 bytes: whether one stands, the route, the order, the
-- train (4 bytes), the turnouts cleared for it (8), those of them that are efficient (8)
abbrev pub movement_fields : ℕ → ℕ → ℕ → ℕ → ℕ → ℕ → List ℕ
movement_fields standing route order train cleared efficient =
    standing ∷ route ∷ order ∷ (be_bytes 4 train ++ (be_bytes 8 cleared ++ be_bytes 8 efficient))

-- 0 no movement, 1 one that stands
abbrev pub standing_of : Movement → ℕ
standing_of None = 0
standing_of (Some p) = 1

abbrev pub route_number : Movement → ℕ
route_number None = 0
route_number (Some p) = p.route

unfoldable pub movement_bytes : Movement → List ℕ
movement_bytes v =
    movement_fields (standing_of v) (route_number v) (order_of v)
    (train_of v) (cleared_set v) (efficient_set v)

-- the recorder (1 while it works), the last accepted time (4 bytes), the turnouts on which a
-- release key was used for the movement (8), 2 reserved bytes
unfoldable pub last_bytes : Bool → ℕ → ℕ → List ℕ
last_bytes working time keys =
    cond working 1 0 ∷ (be_bytes 4 time ++ (be_bytes 8 keys ++ replicate 2 0))

-- UNIT-1: a zone, 64 bytes
unfoldable pub zone_bytes : Zone → List ℕ
unfolding work_bytes movement_bytes last_bytes
zone_bytes z =
    work_bytes z.work
    ++ (movement_bytes z.movement
    ++ last_bytes z.recorder z.time (key_set z.movement))

-- n zones from zone k on
unfoldable pub zones_from : Desk → ℕ → ℕ → List ℕ
zones_from d k zero = []
zones_from d k (suc n) = zone_bytes (zone_at d k) ++ zones_from d (k + 1) n

-- UNIT-1: the version, 1, and 7 reserved bytes
abbrev pub head_bytes : List ℕ
head_bytes = 1 ∷ replicate 7 0

-- UNIT-1: a desk, 520 bytes: the head, then its zones
unfoldable pub desk_bytes : Desk → List ℕ
desk_bytes d = head_bytes ++ zones_from d 0 8

-- bytes with a desk stored at their start; a byte past their end is not stored
abbrev pub stored_desk : List ℕ → Desk → List ℕ
stored_desk s d = sets s 0 (desk_bytes d)

-- bytes with zone k stored in its place; nothing from 8 on
abbrev pub stored_zone : List ℕ → ℕ → Zone → List ℕ
stored_zone s k z = cond (ltb k 8) (sets s (8 + 64 * k) (zone_bytes z)) s

-- the work that stands in the bytes from a place on; a stage that is not 1 or 2 as no work
unfoldable pub work_in : List ℕ → ℕ → Work
work_in s at =
    cond (eqb (byte_at s at) 1)
    (Asked (record {
      form = number_at 4 s (at + 2);
      manner = byte_at s (at + 1);
      set = number_at 8 s (at + 6);
    }))
    (cond (eqb (byte_at s at) 2)
    (Agreed (record {
      form = number_at 4 s (at + 2);
      manner = byte_at s (at + 1);
      set = number_at 8 s (at + 6);
      since = number_at 4 s (at + 14);
      opened = number_at 8 s (at + 18);
    }))
    NoWork)

-- the movement that stands in the bytes from a place on; a first byte that is not 1 as no movement.
-- Its keys stand after the zone's recorder and time
unfoldable pub movement_in : List ℕ → ℕ → Movement
movement_in s at =
    cond (eqb (byte_at s at) 1)
    (Some (record {
      train = number_at 4 s (at + 3);
      route = byte_at s (at + 1);
      order = byte_at s (at + 2);
      cleared = number_at 8 s (at + 7);
      efficient = number_at 8 s (at + 15);
      keys = number_at 8 s (at + 28);
    }))
    None

-- the zone that stands in the bytes from a place on; a recorder's byte that is not 1 as not working
unfoldable pub zone_in : List ℕ → ℕ → Zone
zone_in s at = record {
  work = work_in s at;
  movement = movement_in s (at + 26);
  recorder = eqb (byte_at s (at + 49)) 1;
  time = number_at 4 s (at + 50);
}

-- the desk that stands in the bytes, whatever they are
unfoldable pub desk_in : List ℕ → Desk
desk_in s = record {
  zones =
      zone_in s 8 ∷ zone_in s 72 ∷ zone_in s 136 ∷ zone_in s 200
      ∷ zone_in s 264 ∷ zone_in s 328 ∷ zone_in s 392 ∷ zone_in s 456 ∷ [];
}

-- two lists of bytes are the same
unfoldable pub same_bytes : List ℕ → List ℕ → Bool
same_bytes [] [] = true
same_bytes [] (y ∷ ys) = false
same_bytes (x ∷ xs) [] = false
same_bytes (x ∷ xs) (y ∷ ys) = eqb x y && same_bytes xs ys

-- UNIT-2: the bytes are those of a desk: of the one that stands in them
unfoldable pub is_desk : List ℕ → Bool
is_desk s = same_bytes s (desk_bytes (desk_in s))
