-- What a clearance that fits tells: its position is the route's, and an efficient one covers the whole
-- group.
use mathlib.Core.Bool.{Bool, true, ◌&&◌, and-eq-true_iff}
use mathlib.Core.Path.{◌≡◌}
use Prim.Native.Nat.{ℕ}
use borrow.Author.Tests.{eqb-true}
use Rattle.sets.specs.Sets.{has}
use Rattle.station.specs.declared.Station.{Station}
use Rattle.station.specs.declared.Route.{Route}
use Rattle.station.specs.Station.{drive_of}
use Rattle.groups.specs.Groups.{grouped}
use Rattle.message.specs.declared.Message.{Message}
use Rattle.rules.specs.Clearance.{is_efficient, position_fits, drive_fits, clamp_fits, group_fits}
use Rattle.rules.specs.Clearance.{clearance_fits}

module _ (st : Station) (r : Route) (m : Message) (fits : clearance_fits st r m ≡ true) where
  abbrev position : Bool
  position = position_fits r m.d0 m.d2

  abbrev drive : Bool
  drive = drive_fits m.d1 (drive_of st m.d0)

  abbrev clamp : Bool
  clamp = clamp_fits m.d1 (has r.over m.d0) m.d3

  abbrev group : Bool
  group = group_fits m.d1 (grouped st m.d0) m.d5

  pub fits-position : position_fits r m.d0 m.d2 ≡ true
  unfolding clearance_fits
  fits-position =
      let to-clamp = ((and-eq-true_iff (position && drive && clamp) group).0 fits).0 in
      let to-drive = ((and-eq-true_iff (position && drive) clamp).0 to-clamp).0 in
      ((and-eq-true_iff position drive).0 to-drive).0

  pub fits-group : group_fits m.d1 (grouped st m.d0) m.d5 ≡ true
  unfolding clearance_fits
  fits-group = ((and-eq-true_iff (position && drive && clamp) group).0 fits).1

-- a clearance that fits, of declaration 1 or 2 on a turnout of a group, has d5 = 1
pub covers-group :
    (declaration : ℕ) (is_grouped : Bool) (covers : ℕ) → group_fits declaration is_grouped covers ≡ true
    → is_efficient declaration ≡ true → is_grouped ≡ true → covers ≡ 1
covers-group declaration is_grouped covers fits efficient tied-up =
    eqb-true covers 1 (rw (efficient, tied-up) at fits)
