-- Desks whose numbers of several bytes are of their machine types, as those of every desk are that
-- code holds.
use Rattle.std.specs.Prelude.{◌≡◌, ℕ, ◌^◌, ◌<◌, length}
use Rattle.zone.specs.declared.Work.{Work}
use Rattle.zone.specs.declared.Zone.{Zone}
use Rattle.zone.specs.Work.{form_of, work_set, agreed_at, open_set}
use Rattle.zone.specs.Movement.{Movement, train_of, cleared_set, efficient_set, key_set}
use Rattle.desk.specs.declared.Desk.{Desk}
use Rattle.desk.specs.Desk.{zone_at}

-- each number of several bytes is of its machine type
pub record TypedWork (w : Work) : Type 0 where
  pub form : form_of w < 2 ^ 32
  pub set : work_set w < 2 ^ 64
  pub since : agreed_at w < 2 ^ 32
  pub opened : open_set w < 2 ^ 64

pub record TypedMovement (v : Movement) : Type 0 where
  pub train : train_of v < 2 ^ 32
  pub cleared : cleared_set v < 2 ^ 64
  pub efficient : efficient_set v < 2 ^ 64
  pub keys : key_set v < 2 ^ 64

pub record TypedZone (z : Zone) : Type 0 where
  pub work : TypedWork z.work
  pub movement : TypedMovement z.movement
  pub time : z.time < 2 ^ 32

pub record TypedDesk (d : Desk) : Type 0 where
  pub zones : length d.zones ≡ 8
  pub each : (n : ℕ) → TypedZone (zone_at d n)
