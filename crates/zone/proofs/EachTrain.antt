-- A zone's one place for a movement, by train.
use mathlib.Core.Bool.{Bool, true, false, cond, true≢false}
use mathlib.Core.Path.{◌≡◌, refl, sym}
use Prim.Native.Nat.{ℕ}
use Rattle.std.specs.Prelude.{None}
use Rattle.zone.specs.declared.Zone.{Zone}
use Rattle.zone.specs.Movement.{Movement, is_standing, under_train}
use Rattle.zone.specs.Trains.{movement_under, placed, changed}

-- a movement found under a train is the zone's, and is under that train
pub found-under :
    (z : Zone) (x : ℕ) → is_standing (movement_under z x) ≡ true → under_train z.movement x ≡ true
unfolding movement_under
found-under z x stands = go (under_train z.movement x) stands
  where
    go : (b : Bool) → is_standing (cond b z.movement None) ≡ true → b ≡ true
    go true s = refl
    go false s = absurd (true≢false (sym s))

pub found : (z : Zone) (x : ℕ) → under_train z.movement x ≡ true → movement_under z x ≡ z.movement
unfolding movement_under
found z x under = rw under

-- what holds of the zone's movement holds after an effect, where it holds of the new one, and of
-- what is found under a train
either : (P : Movement → Type 0) (b : Bool) {u v : Movement} → P u → P v → P (cond b u v)
either P true old new = old
either P false old new = new

pub every-placed : (P : Movement → Type 0) (u v : Movement) → P u → P v → P (placed u v)
unfolding placed
every-placed P u v old new = either P (is_standing u) old new

pub every-changed :
    (P : Movement → Type 0) (u : Movement) (x : ℕ) (v : Movement) → P u → P v → P (changed u x v)
unfolding changed
every-changed P u x v old new = either P (under_train u x) new old

pub every-under :
    (P : Movement → Type 0) (z : Zone) (x : ℕ) → P None → P z.movement →
    P (movement_under z x)
unfolding movement_under
every-under P z x none old = either P (under_train z.movement x) old none
