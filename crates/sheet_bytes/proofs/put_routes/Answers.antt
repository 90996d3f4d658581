use Rattle.std.proofs.Common.{ℕ, ◌+◌, ◌*◌, List, length, get_or, refl, sym, ap, ◌∙◌, rules, ◌≡◌}
use Prim.Native.Nat.{min}
use lib.Seq.{sets, length-sets}
use Rattle.station.specs.declared.Route.{Route}
use Rattle.station.specs.Station.{empty_route}
use Rattle.sheet_bytes.specs.SheetBytes.{route_bytes, route_records, records_from}
use Rattle.sheet_bytes.proofs.Stores.{with_rest, rest_all, rest-next, rest-none}
use Rattle.sheet_bytes.proofs.put_routes.Goals as goal

-- the bytes of route i
abbrev bytes_of : List Route → ℕ → List ℕ
bytes_of rs i = route_bytes (get_or rs i empty_route)

pub loop-i-init : goal.loop-i-init
loop-i-init c = (refl, refl)

pub loop-i-preserved : goal.loop-i-preserved
loop-i-preserved c =
    let stored = c.put_route.ensures in
    let l = c.loop-i in
    let n = c.min-i-end.result in
    let first = 8 + 3 * c.min.result in
    let f = bytes_of c.args.rs in
    let same = length-sets l.s (first + 33 * l.i) (f l.i) in
    let next = rest-next f 33 first n l.i l.s refl c.loop-i-test.true in (
      ap length stored ∙ same ∙ l.invariant.0,
      ap (with_rest f 33 first n (l.i + 1)) stored ∙ sym next ∙ l.invariant.1,
    )

pub returns : goal.returns
returns c =
    let l = c.loop-i in
    let a = c.args in
    let n = c.min-i-end.result in
    let first = 8 + 3 * c.min.result in
    let whole : n ≡ min a.r 64 = search rules in
    let turnouts : c.min.result ≡ min a.p 64 = search rules in
    let f = bytes_of a.rs in
    let all = route_records a.r a.rs in
    sym (rest-none f 33 first n l.i l.s c.loop-i-test.false)
    ∙ l.invariant.1
    ∙ rest_all f 33 first n a.s.now
    ∙ ap (λ (k : ℕ). sets a.s.now first (records_from f 0 k)) whole
    ∙ ap (λ (p : ℕ). sets a.s.now (8 + 3 * p) all) turnouts
