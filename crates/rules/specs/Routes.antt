-- The routes that bear on a message.
use Rattle.std.specs.Prelude.{ℕ}
use Rattle.station.specs.declared.Route.{Route}
use Rattle.station.specs.declared.Station.{Station}
use Rattle.station.specs.Station.{the_route, route_by}
use Rattle.message.specs.declared.Message.{Message}
use Rattle.zone.specs.declared.Zone.{Zone}
use Rattle.zone.specs.Movement.{Movement, route_for, route_number}
use Rattle.zone.specs.Trains.{movement_under}
use Rattle.rules.specs.declared.Concerned.{Concerned}
use Rattle.rules.specs.declared.RouteNumbers.{RouteNumbers}

-- the movement that a message of kinds 6 to 9 or 13 is about
abbrev pub its_movement : Zone → Message → Movement
its_movement z m = movement_under z m.id

-- the route that a message of kind 5 asks for, and the route of the movement that one of kinds 6, 7
-- and 13 is about; no other kind looks at them
abbrev pub concerned : Station → Zone → Message → Concerned
concerned st z m = record { asked = the_route st m.d0; its = route_for st (its_movement z m) }

-- The same for whoever keeps the station's records himself: the numbers of both routes, and both
-- routes by their records, of a station that has so many. The law `concerned-by-records` says that
-- the records at the indexes of these numbers give the same.
abbrev pub route_numbers : Zone → Message → RouteNumbers
route_numbers z m = record { asked = m.d0; its = route_number (its_movement z m) }

abbrev pub by_records : ℕ → RouteNumbers → Route → Route → Concerned
by_records count n asked its =
    record { asked = route_by count n.asked asked; its = route_by count n.its its }
