-- M-106 (APART-1 and APART-2 of docs/RULES.md), one message at a time: "Two dispatchers share one
-- unit and want to know that neither's traffic touches the other's." What the desk owes a zone,
-- said of two desks that are the same in it.
use Rattle.std.specs.Prelude.{false, ◌&&◌, ◌≡◌, ℕ, eqb, ltb, length}
use Rattle.station.specs.declared.Station.{Station}
use Rattle.station.specs.Station.{zone_count, zone_of}
use Rattle.message.specs.declared.Message.{Message}
use Rattle.desk.specs.declared.Desk.{Desk}
use Rattle.desk.specs.Desk.{Applied, zone_at, reached}
use Rattle.desk.specs.Questions.{movement_answered, work_answered}

-- two desks of eight zones that are the same in zone n, whatever is in the others
pub record SameZone (n : ℕ) (d e : Desk) : Type 0 where
  pub eight : length d.zones ≡ 8
  pub eight-too : length e.zones ≡ 8
  pub zone : zone_at d n ≡ zone_at e n

-- two answers with the same code and minutes, which leave zone n the same
pub record SameAnswer (n : ℕ) (a b : Applied) : Type 0 where
  pub code : a.code ≡ b.code
  pub minutes : a.minutes ≡ b.minutes
  pub after : SameZone n a.desk b.desk

-- what holds of two desks that are the same in zone n, said of `reached`, which is what the desk does
-- with a message that keeps the field rules
pub record Separate (st : Station) (n : ℕ) (d e : Desk) : Type 0 where
  -- a message of another zone, or of none (12), heard by one of them leaves them the same in it
  pub others :
      (m : Message) → (ltb m.zone (zone_count st) && eqb m.zone n) ≡ false
      → SameZone n (reached st d m).desk e
  -- a message of zone n is answered, and has its effect, by what zone n holds
  pub own : (m : Message) → m.zone ≡ n → SameAnswer n (reached st d m) (reached st e m)
  -- and so are the questions about it
  pub movement :
      (train : ℕ) → movement_answered st d n train ≡ movement_answered st e n train
  pub work : (t : ℕ) → zone_of st t ≡ n → work_answered st d t ≡ work_answered st e t
