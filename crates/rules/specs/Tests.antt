-- The tests of the kinds that look at more than one thing: KIND-1 to KIND-13 (docs/RULES.md).
use Rattle.std.specs.Prelude.{Bool, not, ◌&&◌, ◌||◌, ℕ, eqb, ltb}
use Rattle.sets.specs.Sets.{has, is_empty, overlaps, within, union}
use Rattle.station.specs.declared.Route.{Route}
use Rattle.station.specs.declared.Station.{Station}
use Rattle.station.specs.Station.{route_count, zone_turnouts}
use Rattle.groups.specs.Groups.{splits}
use Rattle.message.specs.declared.Message.{Message}
use Rattle.zone.specs.declared.Work.{Work}
use Rattle.zone.specs.declared.Zone.{Zone}
use Rattle.zone.specs.Work.{under_form, manner}
use Rattle.zone.specs.Movement.{Movement, is_standing, lack_nothing, worked_turnouts, regime_on, order_refused}
use Rattle.zone.specs.Trains.{named_standing, cleared_standing}
use Rattle.zone.specs.Zone.{work_of}
use Rattle.rules.specs.Routes.{its_movement}
use Rattle.rules.specs.Clearance.{clearance_fits}
use Rattle.rules.specs.Keys.{key_fits}

-- KIND-2.1, KIND-3.1, KIND-4.1, KIND-10.1, KIND-11.1: 15, "no work or movement under this id"
abbrev pub no_work_under : Zone → Message → Bool
no_work_under z m = not (under_form (work_of z) m.id)

-- KIND-6.1, KIND-7.1, KIND-8.1, KIND-9.1, KIND-13.1: 15 of a movement
abbrev pub no_movement_under : Zone → Message → Bool
no_movement_under z m = not (is_standing (its_movement z m))

-- KIND-1.2: "a empty, outside the zone or splitting a crossover (Art. 2.16, 2.19)", now a group
abbrev pub bad_request : Station → ℕ → ℕ → Bool
bad_request st zone a = is_empty a || not (within a (zone_turnouts st zone)) || splits st a

-- KIND-4.2: "both empty, overlapping or outside the work"
abbrev pub bad_detection : ℕ → ℕ → ℕ → Bool
bad_detection set a b = is_empty (union a b) || overlaps a b || not (within (union a b) set)

-- KIND-5.2: "route not below R or of another zone"
abbrev pub bad_route : Station → Route → ℕ → ℕ → Bool
bad_route st r zone route = not (ltb route (route_count st)) || not (eqb r.zone zone)

-- KIND-10.2: "a empty, not a proper part of the work, or splitting a crossover", now a group
abbrev pub bad_part : Station → ℕ → ℕ → Bool
bad_part st set a = is_empty a || not (within a set) || eqb a set || splits st a

-- KIND-2.3, KIND-10.4, KIND-11.3: "a standing movement names a turnout of the work (2, 11) or of a
-- (10)"
abbrev pub in_the_way : Station → Zone → ℕ → Bool
in_the_way st z s = overlaps (named_standing st z) s

-- KIND-4.4: "a cleared turnout in a or b"; a key does not matter
abbrev pub cleared_among : Zone → ℕ → Bool
cleared_among z s = overlaps (cleared_standing z) s

-- KIND-4.5: "b not empty under verbal"
abbrev pub device_under_verbal : Work → ℕ → Bool
device_under_verbal w b = not (is_empty b) && eqb (manner w) 2

-- KIND-6.2, KIND-13.2: "cleared already"; M-105: "A second key or a clearance on it gets 16"
abbrev pub has_already : Movement → ℕ → Bool
has_already v n = has (lack_nothing v) n

-- KIND-6.3, KIND-13.3: "not under agreed work or not named": of turnout n, a route and the zone's
-- work
abbrev pub not_worked : Route → Work → ℕ → Bool
not_worked r w n = not (has (worked_turnouts r w) n)

-- KIND-6.4: a clearance that does not fit its turnout in a route
abbrev pub misfits : Station → Route → Message → Bool
misfits st r m = not (clearance_fits st r m)

-- KIND-13.4: a key that may not be used on turnout n of a route
abbrev pub key_misfits : Route → ℕ → ℕ → Bool
key_misfits r n key = not (key_fits r n key)

-- KIND-7.3: an order that the regime on a route forbids
abbrev pub order_forbidden : Route → Work → Movement → ℕ → Bool
order_forbidden r w v order = order_refused order (regime_on r w v)
