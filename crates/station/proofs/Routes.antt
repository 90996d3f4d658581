-- The route as it counts, by its record.
use mathlib.Core.Bool.{Bool, true, false}
use mathlib.Core.Path.{◌≡◌, refl}
use Prim.Native.Nat.{ℕ, ◌<◌}
use native.Mathlib.Omega.{arith}
use lib.Dec.{ltb}
use borrow.Author.Tests.{ltb-true, lt-ltb}
use Rattle.station.specs.declared.Station.{Station}
use Rattle.station.specs.Station.{the_route, route_at, route_by, route_index, route_count}

pub route-by-record :
    (st : Station) (n : ℕ) → route_by st.routes n (route_at st (route_index n)) ≡ the_route st n
unfolding the_route
route-by-record st n = go (ltb n (route_count st)) refl
  where
    go : (below : Bool) → ltb n (route_count st) ≡ below
        → route_by st.routes n (route_at st (route_index n)) ≡ the_route st n
    go true p =
        let below : n < route_count st = ltb-true n (route_count st) p in
        let placed : n < 64 = omega arith in
        rw (p, lt-ltb n 64 placed)
    go false p = rw p
