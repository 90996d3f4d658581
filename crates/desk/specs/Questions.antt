-- The two questions, ASK-1 to ASK-4 (docs/RULES.md): "Two questions change nothing."
use Rattle.std.specs.Prelude.{◌≢◌, Bool, false, cond, not, ◌&&◌, ℕ, ltb, Result, Ok, Err, Some, unwrap_or}
use Rattle.refusals.specs.declared.Refusal.{Refusal}
use Rattle.refusals.specs.Numbers.{number_of}
use Rattle.sets.specs.Sets.{has, is_empty, count, lowest}
use Rattle.station.specs.declared.Station.{Station}
use Rattle.station.specs.Station.{turnout_count, zone_count, zone_of}
use Rattle.zone.specs.declared.Zone.{Zone}
use Rattle.zone.specs.declared.Regime.{Regime}
use Rattle.zone.specs.declared.Regime.TheVariants.{Held}
use Rattle.zone.specs.Work.{open_set}
use Rattle.zone.specs.Movement.{is_standing, lacking, regime_of}
use Rattle.zone.specs.Trains.{movement_under}
use Rattle.zone.specs.Zone.{work_of}
use Rattle.desk.specs.declared.Desk.{Desk}
use Rattle.desk.specs.declared.MovementState.{MovementState}
use Rattle.desk.specs.Desk.{zone_at}

-- the answer to the movement question: its code, the regime, the lowest-numbered turnout still
-- lacking a clearance or a key, how many lack one
pub record MovementAnswer : Type 0 where
  pub code : ℕ
  pub regime : Regime
  pub lowest : ℕ
  pub count : ℕ

-- the answer to the work question: its code, and whether the turnout is open to work
pub record WorkAnswer : Type 0 where
  pub code : ℕ
  pub yes : Bool

-- ASK-2: "The first is refused by 12, then 15, and returns held, 255 and 0"
abbrev pub movement_refused : ℕ → MovementAnswer
movement_refused number = record { code = number; regime = Held; lowest = 255; count = 0 }

-- the answer that the result of the movement question stands for; 255 for no lowest turnout
abbrev pub movement_answer_of : Result MovementState Refusal → MovementAnswer
movement_answer_of (Ok s) =
    record { code = 0; regime = s.regime; lowest = unwrap_or s.lowest 255; count = s.count }
movement_answer_of (Err e) = movement_refused (number_of e)

-- the lowest turnout, where there is one, is a turnout: 255 stands for none alone
abbrev pub NamesATurnout : MovementState → Type 0
NamesATurnout s = s.lowest ≢ Some 255

-- the answer that the result of the work question stands for
abbrev pub work_answer_of : Result Bool Refusal → WorkAnswer
work_answer_of (Ok answer) = record { code = 0; yes = answer }
work_answer_of (Err e) = record { code = number_of e; yes = false }

-- ASK-1: "the lowest-numbered turnout still lacking one", a clearance or a key, 255 if none
abbrev pub lowest_of : ℕ → ℕ
lowest_of s = cond (is_empty s) 255 (lowest s)

-- ASK-1: "Movement (zone, train): the regime, the lowest-numbered turnout still lacking one, and
-- how many lack one (255 and 0 if none)."
abbrev pub movement_in : Station → Zone → ℕ → MovementAnswer
movement_in st z train =
    cond (not (is_standing (movement_under z train))) (movement_refused 15)
    (record {
      code = 0;
      regime = regime_of st (work_of z) (movement_under z train);
      lowest = lowest_of (lacking st (work_of z) (movement_under z train));
      count = count (lacking st (work_of z) (movement_under z train));
    })

-- ASK-2: 12 for a zone not below Z, else as the zone answers
unfoldable pub movement_answered : Station → Desk → ℕ → ℕ → MovementAnswer
movement_answered st d zone train =
    cond (not (ltb zone (zone_count st))) (movement_refused 12) (movement_in st (zone_at d zone) train)

-- ASK-3: "Work (turnout): yes if open to work, else no"; ASK-4: refused "by 13 for a turnout not
-- below P, and returns no". VALUE-8: a turnout whose zone is not below Z is not open.
unfoldable pub work_answered : Station → Desk → ℕ → WorkAnswer
work_answered st d n =
    cond (not (ltb n (turnout_count st))) (record { code = 13; yes = false })
    (record {
      code = 0;
      yes = ltb (zone_of st n) (zone_count st) && has (open_set (work_of (zone_at d (zone_of st n)))) n;
    })
