-- The routes begin where the last turnout ends.
use Rattle.std.proofs.Common.{◌≡◌, ℕ, ◌+◌, ◌*◌, ◌++◌, length, refl, ap}
use Prim.Native.Nat.{min}
use Rattle.station.specs.Station.{turnout_at}
use Rattle.sheet_bytes.specs.SheetBytes.{
  header_bytes,
  turnout_bytes,
  turnout_records,
  route_records,
  sheet_bytes,
}
use Rattle.bigendian.proofs.Places.{part_then}
use Rattle.sheet_bytes.proofs.Records.{length-records}
use Rattle.sheet_bytes.proofs.put_sheet.Goals as goal

pub returns : goal.returns
unfolding sheet_bytes
returns c =
    let a = c.args in
    let st = a.st in
    let count = min st.turnouts 64 in
    let header = header_bytes st.turnouts st.routes st.zones in
    let turnouts = turnout_records st.turnouts st.turnout in
    let routes = route_records st.routes st.route in
    let width = length-records (λ n. turnout_bytes (turnout_at st n)) 3 (λ n. refl) 0 count in
    let end : 8 + length turnouts ≡ 8 + 3 * count = ap (λ (n : ℕ). 8 + n) width in
    part_then header (turnouts ++ routes) a.s.now 0 8 refl c.put_header.ensures
    (part_then turnouts routes c.put_header.new.s 8 (8 + 3 * count) end c.put_turnouts.ensures
    c.put_routes.ensures)
