-- A movement's route by its number: 255 is below no station's count of routes.
use mathlib.Core.Path.{◌≡◌, refl}
use Prim.Native.Nat.{◌≤◌}
use native.Mathlib.Omega.{arith}
use borrow.Author.Tests.{le-ltb}
use Rattle.station.specs.declared.Station.{Station}
use Rattle.station.specs.Station.{the_route, route_count}
use Rattle.std.specs.Prelude.{None, Some}
use Rattle.zone.specs.Movement.{Movement, route_for, route_number}

pub route-by-number : (st : Station) (v : Movement) → the_route st (route_number v) ≡ route_for st v
unfolding the_route
route-by-number st None =
    let none : route_count st ≤ 255 = omega arith in
    rw (le-ltb 255 (route_count st) none)
route-by-number st (Some p) = refl
