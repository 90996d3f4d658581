-- The movements of a zone, by train: what the rules, the kinds and the questions ask of them.
-- ZONE-1 (docs/RULES.md) has "one movement" in a zone; of the rules only these definitions know
-- that there is one place.
use Rattle.std.specs.Prelude.{Bool, cond, ℕ, None}
use Rattle.station.specs.declared.Station.{Station}
use Rattle.zone.specs.declared.Zone.{Zone}
use Rattle.zone.specs.Movement.{Movement, is_standing, under_train, cleared_set, named_turnouts}

-- the movement "under this id", or none
unfoldable pub movement_under : Zone → ℕ → Movement
movement_under z train = cond (under_train z.movement train) z.movement None

-- KIND-5.1: 16, "movement in zone": one more movement finds no place
unfoldable pub no_place : Zone → Bool
no_place z = is_standing z.movement

-- the turnouts that standing movements name
unfoldable pub named_standing : Station → Zone → ℕ
named_standing st z = named_turnouts st z.movement

-- the turnouts cleared for standing movements
unfoldable pub cleared_standing : Zone → ℕ
cleared_standing z = cleared_set z.movement

-- what the place holds once a movement is asked for: that one, unless one stands
unfoldable pub placed : Movement → Movement → Movement
placed u v = cond (is_standing u) u v

-- KIND-5.3: the zone with one more movement, where there is a place for it
abbrev pub with_movement : Zone → Movement → Zone
with_movement z v = record {
  work = z.work;
  movement = placed z.movement v;
  recorder = z.recorder;
  time = z.time;
}

-- what the place holds once the movement under this train becomes another, or none
unfoldable pub changed : Movement → ℕ → Movement → Movement
changed u train v = cond (under_train u train) v u

-- KIND-6.6, KIND-7.4, KIND-8.3, KIND-9.3, KIND-13.5: the zone with another movement, or none, in
-- the place of the one under this train
abbrev pub changed_under : Zone → ℕ → Movement → Zone
changed_under z train v = record {
  work = z.work;
  movement = changed z.movement train v;
  recorder = z.recorder;
  time = z.time;
}
