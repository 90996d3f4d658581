-- The invariant says that storing what is left gives the whole.
use Rattle.std.proofs.Common.{◌≡◌, length, get_or}
use Rattle.station.specs.Station.{empty_route}
use Rattle.sheet_bytes.specs.SheetBytes.{route_bytes}
use Rattle.sheet_bytes.proofs.Stores.{with_rest}
use Rattle.sheet_bytes.proofs.put_routes.Given as goal

abbrev pub invariant-loop-i : goal.invariant-loop-i
invariant-loop-i l =
    (length l.s ≡ length l.initial.s)
    × (with_rest (λ k. route_bytes (get_or l.rs k empty_route)) 33 l.first l.i-end l.i l.s
    ≡ with_rest (λ k. route_bytes (get_or l.rs k empty_route)) 33 l.first l.i-end 0 l.initial.s)
