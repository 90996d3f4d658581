-- The thirteen kinds over one zone: KIND-1 to KIND-13 (docs/RULES.md), row by row. A row is the
-- list of its checks after 14, in the written order; effects are total functions of the zone and
-- the message.
use Rattle.std.specs.Prelude.{Bool, true, cond, not, List, [], ◌∷◌, ℕ, eqb, ltb, get_or, None}
use Rattle.sets.specs.Sets.{single, union}
use Rattle.station.specs.declared.Station.{Station}
use Rattle.message.specs.declared.Message.{Message}
use Rattle.zone.specs.declared.Work.{Work}
use Rattle.zone.specs.declared.Work.TheVariants.{NoWork}
use Rattle.zone.specs.declared.Zone.{Zone}
use Rattle.durations.specs.Minutes.{minutes_between}
use Rattle.zone.specs.Work.{has_work, is_agreed, manner, work_set, agreed_at}
use Rattle.zone.specs.Work.{asked_for, agreed_from, opened_to, shut_to, restored_of}
use Rattle.zone.specs.Movement.{is_ordered, movement_for, cleared_at, keyed_at, ordered_as}
use Rattle.zone.specs.Trains.{no_place, with_movement, changed_under}
use Rattle.zone.specs.Zone.{Answer, work_of, next_zone, refused_in, settled}
use Rattle.rules.specs.declared.Concerned.{Concerned}
use Rattle.rules.specs.Routes.{its_movement, concerned}
use Rattle.rules.specs.Clearance.{is_efficient, medium_fits}
use Rattle.rules.specs.Tests.{no_work_under, no_movement_under, bad_request, bad_detection}
use Rattle.rules.specs.Tests.{bad_route, bad_part, in_the_way, cleared_among, device_under_verbal}
use Rattle.rules.specs.Tests.{has_already, not_worked, misfits, key_misfits, order_forbidden}

-- a check: the number that is given where the test holds
pub data Check : Type 0 where
  ◌gives◌ : Bool → ℕ → Check

infix 20 ◌gives◌
-- CALL-2, HEAR-4: the number of the first check whose test holds, else 0; the rows have their
-- checks in rising number
abbrev pub first : List Check → ℕ
first [] = 0
first ((test gives number) ∷ rest) = cond test number (first rest)

-- a row of the table: the checks of a kind, the routes that bear on the message being given
abbrev pub Row : Type 0
Row = Station → Concerned → Zone → Message → List Check

-- KIND-1.1, KIND-1.2, work asked: "16 work in zone; 17 .."
abbrev pub row1 : Row
row1 st routes z m = (has_work (work_of z) gives 16) ∷ (bad_request st m.zone m.a gives 17) ∷ []

-- KIND-2.1 to KIND-2.3, agreed: "15; 18 agreed already; 19"
abbrev pub row2 : Row
row2 st routes z m =
    (no_work_under z m gives 15)
    ∷ (is_agreed (work_of z) gives 18)
    ∷ (in_the_way st z (work_set (work_of z)) gives 19)
    ∷ []

-- KIND-3.1, KIND-3.2, withdrawn: "15; 18 agreed"
abbrev pub row3 : Row
row3 st routes z m = (no_work_under z m gives 15) ∷ (is_agreed (work_of z) gives 18) ∷ []

-- KIND-4.1 to KIND-4.5, detection off: "15; 17 ..; 18 not agreed; 19 a cleared turnout in a or b;
-- 22 b not empty under verbal (3.19, 3.20)"
abbrev pub row4 : Row
row4 st routes z m =
    (no_work_under z m gives 15)
    ∷ (bad_detection (work_set (work_of z)) m.a m.b gives 17)
    ∷ (not (is_agreed (work_of z)) gives 18)
    ∷ (cleared_among z (union m.a m.b) gives 19)
    ∷ (device_under_verbal (work_of z) m.b gives 22)
    ∷ []

-- KIND-5.1, KIND-5.2, movement asked: "16 movement in zone; 17 .."
abbrev pub row5 : Row
row5 st routes z m =
    (no_place z gives 16) ∷ (bad_route st routes.asked m.zone m.d0 gives 17) ∷ []

-- KIND-6.1 to KIND-6.5, clearance: "15; 16 cleared already; 17 not under agreed work or not named;
-- 20; 21"; 16 also where a key was used
abbrev pub row6 : Row
row6 st routes z m =
    (no_movement_under z m gives 15)
    ∷ (has_already (its_movement z m) m.d0 gives 16)
    ∷ (not_worked routes.its (work_of z) m.d0 gives 17)
    ∷ (misfits st routes.its m gives 20)
    ∷ (not (medium_fits z.recorder m.d4) gives 21)
    ∷ []

-- KIND-7.1 to KIND-7.3, ordered: "15; 18 ordered already; 22"
abbrev pub row7 : Row
row7 st routes z m =
    (no_movement_under z m gives 15)
    ∷ (is_ordered (its_movement z m) gives 18)
    ∷ (order_forbidden routes.its (work_of z) (its_movement z m) m.d0 gives 22)
    ∷ []

-- KIND-8.1, KIND-8.2, passed: "15; 18 not ordered"
abbrev pub row8 : Row
row8 st routes z m =
    (no_movement_under z m gives 15) ∷ (not (is_ordered (its_movement z m)) gives 18) ∷ []

-- KIND-9.1, KIND-9.2, cancelled: "15; 18 ordered"
abbrev pub row9 : Row
row9 st routes z m = (no_movement_under z m gives 15) ∷ (is_ordered (its_movement z m) gives 18) ∷ []

-- KIND-10.1 to KIND-10.5, part restored: "15; 17 ..; 18 not agreed; 19; 22 under M.45 (2.13)"
abbrev pub row10 : Row
row10 st routes z m =
    (no_work_under z m gives 15)
    ∷ (bad_part st (work_set (work_of z)) m.a gives 17)
    ∷ (not (is_agreed (work_of z)) gives 18)
    ∷ (in_the_way st z m.a gives 19)
    ∷ (eqb (manner (work_of z)) 1 gives 22)
    ∷ []

-- KIND-11.1 to KIND-11.3, all restored: "15; 18 not agreed; 19"
abbrev pub row11 : Row
row11 st routes z m =
    (no_work_under z m gives 15)
    ∷ (not (is_agreed (work_of z)) gives 18)
    ∷ (in_the_way st z (work_set (work_of z)) gives 19)
    ∷ []

-- KIND-12.1, recorder: no check
abbrev pub row12 : Row
row12 st routes z m = []

-- KIND-13.1 to KIND-13.4, key used: "It is checked like a clearance for 15, 16 and 17 .. Turned
-- away: 23, unless ..; after 17"
abbrev pub row13 : Row
row13 st routes z m =
    (no_movement_under z m gives 15)
    ∷ (has_already (its_movement z m) m.d0 gives 16)
    ∷ (not_worked routes.its (work_of z) m.d0 gives 17)
    ∷ (key_misfits routes.its m.d0 m.d1 gives 23)
    ∷ []

-- HEAR-1: 11, no kind; the desk gives it before 14, so that this row is never asked
abbrev pub no_kind : Row
no_kind st routes z m = (true gives 11) ∷ []

-- the table of kinds
abbrev pub rows : List Row
rows =
    no_kind ∷ row1 ∷ row2 ∷ row3 ∷ row4 ∷ row5 ∷ row6
    ∷ row7 ∷ row8 ∷ row9 ∷ row10 ∷ row11 ∷ row12 ∷ row13 ∷ []

unfoldable pub row : ℕ → Row
row kind = get_or rows kind no_kind

-- what each kind does to the zone's work: KIND-1.3, KIND-2.4, KIND-3.3, KIND-4.6, KIND-6.6,
-- KIND-10.6, KIND-11.4; 12 and 13 are past the table's end and keep it: with a key "the gang may go
-- on working there" (KIND-13.5)
abbrev pub keeps_work : Work → Message → Work
keeps_work w m = w

unfoldable pub work_after : ℕ → Work → Message → Work
work_after kind =
    get_or
    (keeps_work
    ∷ (λ w m. asked_for m.id m.d0 m.a)
    ∷ (λ w m. agreed_from w m.time)
    ∷ (λ w m. NoWork)
    ∷ (λ w m. opened_to w (union m.a m.b))
    ∷ keeps_work
    ∷ (λ w m. shut_to w (single m.d0))
    ∷ keeps_work
    ∷ keeps_work
    ∷ keeps_work
    ∷ (λ w m. restored_of w m.a)
    ∷ (λ w m. NoWork)
    ∷ [])
    kind keeps_work

-- what each kind does to the zone's movements: KIND-5.3, KIND-6.6, KIND-7.4, KIND-8.3, KIND-9.3,
-- KIND-13.5; of 8 and 9: "Keys lapse when the train passes or the movement is cancelled"
abbrev pub keeps_movements : Zone → Message → Zone
keeps_movements z m = z

unfoldable pub moved : ℕ → Zone → Message → Zone
moved kind =
    get_or
    (keeps_movements
    ∷ keeps_movements
    ∷ keeps_movements
    ∷ keeps_movements
    ∷ keeps_movements
    ∷ (λ z m. with_movement z (movement_for m.id m.d0))
    ∷ (λ z m. changed_under z m.id (cleared_at (its_movement z m) m.d0 (is_efficient m.d1)))
    ∷ (λ z m. changed_under z m.id (ordered_as (its_movement z m) m.d0))
    ∷ (λ z m. changed_under z m.id None)
    ∷ (λ z m. changed_under z m.id None)
    ∷ keeps_movements
    ∷ keeps_movements
    ∷ keeps_movements
    ∷ (λ z m. changed_under z m.id (keyed_at (its_movement z m) m.d0))
    ∷ [])
    kind keeps_movements

-- KIND-12.1: "set", 1 working
unfoldable pub recorder_after : ℕ → Bool → Message → Bool
recorder_after kind working m = cond (eqb kind 12) (eqb m.d0 1) working

-- KIND-11.4, MINUTES-2: "Kind 11, accepted, also returns whole minutes since agreement ..; every
-- other answer has 0." How seconds become minutes is MINUTES-1
unfoldable pub minutes_for : ℕ → Work → Message → ℕ
minutes_for kind w m = cond (eqb kind 11) (minutes_between (agreed_at w) m.time) 0

-- HEAR-4: what each kind does to the zone
unfoldable pub zone_after : ℕ → Zone → Message → Zone
zone_after kind z m =
    next_zone (moved kind z m) (work_after kind (work_of z) m)
    (recorder_after kind z.recorder m) m.time

-- the checks of a kind, the routes being the station's
abbrev pub checks_of : ℕ → Station → Zone → Message → List Check
checks_of kind st z m = row kind st (concerned st z m) z m

-- HEAR-4: the answer of a kind, after 14
unfoldable pub answered : ℕ → Station → Concerned → Zone → Message → Answer
answered kind st routes z m =
    settled z (first (row kind st routes z m)) (minutes_for kind (work_of z) m) (zone_after kind z m)

-- HEAR-3, HEAR-4: a message heard by its zone, after 11, 13 and 12, the routes being given: 14,
-- "time before the zone's last accepted", then the checks of its kind
unfoldable pub heard_on : Station → Concerned → Zone → Message → Answer
heard_on st routes z m =
    cond (ltb m.time z.time) (refused_in z 14) (answered m.kind st routes z m)

-- the same, the routes being the station's
unfoldable pub heard : Station → Zone → Message → Answer
heard st z m = heard_on st (concerned st z m) z m
