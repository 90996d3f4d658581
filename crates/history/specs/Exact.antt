-- What both questions look at in a zone after a list is exactly what the history, HIST-2 to HIST-8
-- (docs/RULES.md), says of it: what is under agreed work, open and cleared; whether a movement
-- stands, under which train, what has neither a clearance nor a key in it, what has a good
-- clearance and what a key. Of the clock, the recorder, ids of work and orders it says nothing.
use Rattle.std.specs.Prelude.{true, false, List, ◌≡◌, ℕ}
use Rattle.sets.specs.Sets.{has}
use Rattle.message.specs.declared.Message.{Message}
use Rattle.station.specs.declared.Station.{Station}
use Rattle.zone.specs.declared.Zone.{Zone}
use Rattle.zone.specs.Work.{agreed_set, open_set}
use Rattle.zone.specs.Movement.{is_standing, efficient_set, key_set, lacking}
use Rattle.zone.specs.Trains.{movement_under, cleared_standing}
use Rattle.zone.specs.Zone.{work_of}
use Rattle.history.specs.Since.{never, since, any}
use Rattle.history.specs.History.{under_agreed_work, open_to_work, standing, cleared, clears_well}
use Rattle.history.specs.History.{key_for, lacks}

-- the movement of the zone that f asked for, and the messages after f
pub record ExactMovement (st : Station) (H : List Message) (zone : Zone)
    (f : Message) (rest : List Message) : Type 0 where
  pub stands : is_standing (movement_under zone f.id) ≡ true
  pub lacking-of :
      (t : ℕ) →
      lacks st H f rest t ≡ has (lacking st (work_of zone) (movement_under zone f.id)) t
  pub cleared-well :
      (t : ℕ) → any (clears_well st f t) rest ≡ has (efficient_set (movement_under zone f.id)) t
  pub keys-used : (t : ℕ) → any (key_for f t) rest ≡ has (key_set (movement_under zone f.id)) t

-- a zone and the accepted messages of it
pub record Exact (st : Station) (H : List Message) (zone : Zone) : Type 0 where
  pub under-work : (t : ℕ) → under_agreed_work t H ≡ has (agreed_set (work_of zone)) t
  pub opened : (t : ℕ) → open_to_work t H ≡ has (open_set (work_of zone)) t
  pub cleared-for : (t : ℕ) → cleared t H ≡ has (cleared_standing zone) t
  pub movement :
      (f : Message) (rest : List Message) → standing H ≡ since f rest →
      ExactMovement st H zone f rest
  pub none-stands : standing H ≡ never → (train : ℕ) → is_standing (movement_under zone train) ≡ false
