-- A station and the bytes of its sheet are each found again from the other. A station whose
-- records past its counts are empty is the one that stands in its sheet; bytes of version 2
-- whose header has no fault are the sheet of the station that stands in them.
use mathlib.Core.Bool.{Bool, true, false, cond}
use mathlib.Core.Path.{◌≡◌, refl, sym, ap, ap₂, ◌∙◌}
use mathlib.Core.List.{List, [], ◌++◌, append-nil}
use Prim.Native.Nat.{ℕ, ◌+◌, ◌*◌, ◌≤◌, ◌<◌, min}
use native.Mathlib.Nat.{add-zero, add_assoc, mul-zero, min-eq_left}
use native.Mathlib.Omega.{arith}
use borrow.Author.Tests.{ltb-true, ltb-false, lt-ltb}
use lib.Dec.{ltb}
use lib.ListN.{length, get_or, drop}
use lib.Seq.{ext_get_or, drop-drop, drop_at}
use Rattle.bigendian.specs.BigEndian.{Bytes, bytes_at}
use Rattle.bigendian.proofs.Places.{bytes_at-add, bytes_at-all}
use Rattle.sets.specs.Table.{places}
use Rattle.sets.proofs.Tables.{length-places, get_d-places}
use Rattle.station.specs.declared.Turnout.{Turnout}
use Rattle.station.specs.declared.Route.{Route}
use Rattle.station.specs.declared.Station.{Station}
use Rattle.station.specs.Station.{empty_turnout, empty_route, turnout_at, route_at}
use Rattle.layout.specs.Layout.{version, count_p, count_r, header_number, station_in}
use Rattle.layout.specs.Layout.{turnout_in, turnout_place, route_in, route_place}
use Rattle.sheet_bytes.specs.SheetBytes.{turnout_bytes, route_bytes, records_from}
use Rattle.sheet_bytes.specs.SheetBytes.{turnout_records, route_records, sheet_bytes}
use Rattle.sheet_bytes.specs.Typed.{TypedStation}
use Rattle.sheet_bytes.proofs.Records.{record-read, same-records, records-in}
use Rattle.sheet_bytes.proofs.OneRecord.{turnout-read, turnout-from, turnout-written}
use Rattle.sheet_bytes.proofs.OneRecord.{route-read, route-from, route-written}
use Rattle.sheet_bytes.proofs.Header.{length-turnouts, faultless, header-written}

-- a table of 64 places whose records below a count are f's, and empty from there on
table-read :
    {A : Type 0} (f : ℕ → A) (p : ℕ) (e : A) (l : List A) → length l ≡ 64 →
    ((n : ℕ) → n < p → f n ≡ get_or l n e) → ((n : ℕ) → p ≤ n → get_or l n e ≡ e) → places f p e ≡ l
table-read f p e l whole below past =
    ext_get_or e (places f p e) l (length-places f p e ∙ sym whole)
    (λ n inside. at n (rw (length-places f p e) at inside) (ltb n p) refl)
  where
    at : (n : ℕ) → n < 64 → (b : Bool) → ltb n p ≡ b → get_or (places f p e) n e ≡ get_or l n e
    at n inside true q = get_d-places f p e n e inside ∙ rw q (below n (ltb-true n p q))
    at n inside false q = get_d-places f p e n e inside ∙ rw q (sym (past n (ltb-false n p q)))

-- the records of a table that was read from bytes are these bytes
table-written :
    {A : Type 0} (write : A → List ℕ) (f : ℕ → A) (e : A) (s : List ℕ) (w at p : ℕ) → p ≤ 64 →
    ((n : ℕ) → write (f n) ≡ bytes_at s (at + w * n) w) →
    records_from (λ n. write (get_or (places f p e) n e)) 0 (min p 64) ≡ bytes_at s at (w * p)
table-written write f e s w at p limit written =
    let start : at + w * 0 ≡ at = ap (λ (n : ℕ). at + n) (mul-zero w) ∙ add-zero at in
    let count : w * min p 64 ≡ w * p = ap (λ (n : ℕ). w * n) (min-eq_left limit) in
    same-records record_of stretch 0 (min p 64) same
    ∙ records-in s w at 0 (min p 64)
    ∙ ap₂ (bytes_at s) start count
  where
    record_of : ℕ → List ℕ
    record_of n = write (get_or (places f p e) n e)

    stretch : ℕ → List ℕ
    stretch n = bytes_at s (at + w * n) w

    same : (n : ℕ) → n < 0 + min p 64 → record_of n ≡ stretch n
    same n below =
        let placed = get_d-places f p e n e (omega arith) in
        let counted = ap (λ (b : Bool). cond b (f n) e) (lt-ltb n p (omega arith)) in
        ap write (placed ∙ counted) ∙ written n

-- the routes begin after the header and the turnouts
after-turnouts :
    (st : Station) → st.turnouts ≤ 64 →
    drop (8 + 3 * st.turnouts) (sheet_bytes st) ≡ route_records st.routes st.route ++ []
unfolding sheet_bytes
after-turnouts st limit =
    let turnouts = turnout_records st.turnouts st.turnout in
    let routes = route_records st.routes st.route in
    sym (drop-drop (3 * st.turnouts) 8 (sheet_bytes st))
    ∙ drop_at turnouts routes (3 * st.turnouts) (length-turnouts st limit)
    ∙ sym (append-nil routes)

-- a station, written as a sheet and read again
pub station-of-bytes :
    (st : Station) → TypedStation st → st.turnouts ≤ 64 → st.routes ≤ 64 →
    ((n : ℕ) → st.turnouts ≤ n → turnout_at st n ≡ empty_turnout) →
    ((r : ℕ) → st.routes ≤ r → route_at st r ≡ empty_route) →
    station_in (sheet_bytes st) ≡ st
unfolding station_in sheet_bytes
station-of-bytes st fits p-limit r-limit past-turnouts past-routes =
    let turnouts = table-read turnout p empty_turnout st.turnout fits.turnout-places in
    let routes = table-read route r empty_route st.route fits.route-places in
    let turnout-table = turnouts same-turnout past-turnouts in
    let route-table = routes same_route past-routes in
    λ i. record {
      turnouts = p;
      routes = r;
      zones = st.zones;
      turnout = turnout-table i;
      route = route-table i;
    }
  where
    p : ℕ
    p = st.turnouts

    r : ℕ
    r = st.routes

    s : List ℕ
    s = sheet_bytes st

    turnout : ℕ → Turnout
    turnout n = turnout_in s (turnout_place n)

    route : ℕ → Route
    route n = route_in s (route_place p n)

    same-turnout : (n : ℕ) → n < p → turnout n ≡ turnout_at st n
    same-turnout n below =
        record-read (λ k. turnout_bytes (turnout_at st k)) 3 (λ k. refl) turnout_in turnout-from
        s 8 (min p 64) (route_records r st.route) refl
        n (omega arith) (turnout_at st n) (turnout-read (turnout_at st n))

    same_route : (n : ℕ) → n < r → route n ≡ route_at st n
    same_route n below =
        record-read (λ k. route_bytes (route_at st k)) 33 (λ k. refl) route_in route-from
        s (8 + 3 * p) (min r 64) [] (after-turnouts st p-limit)
        n (omega arith) (route_at st n) (route-read (route_at st n) (fits.route n))

-- bytes of version 2 whose header has no fault, read as a station and written again
pub bytes-of-station :
    (s : List ℕ) → Bytes s → header_number s ≡ 0 → version s ≡ 2 → sheet_bytes (station_in s) ≡ s
unfolding sheet_bytes station_in
bytes-of-station s byte good second =
    let kept = faultless s good in
    let header = header-written s byte kept second in
    let turnouts = same-turnouts kept.p-limit in
    let routes = same-routes kept.r-limit in
    let whole : 8 + (3 * p + 33 * r) ≡ length s =
    sym (add_assoc 8 (3 * p) (33 * r)) ∙ sym kept.whole in
    (λ i. header i ++ (turnouts i ++ routes i))
    ∙ sym joined
    ∙ ap (bytes_at s 0) whole
    ∙ bytes_at-all s
  where
    p : ℕ
    p = count_p s

    r : ℕ
    r = count_r s

    turnout : ℕ → Turnout
    turnout n = turnout_in s (turnout_place n)

    route : ℕ → Route
    route n = route_in s (route_place p n)

    same-turnouts :
        p ≤ 64 → turnout_records p (places turnout p empty_turnout) ≡ bytes_at s 8 (3 * p)
    same-turnouts limit =
        table-written turnout_bytes turnout empty_turnout s 3 8 p limit
        (λ n. turnout-written s (turnout_place n))

    same-routes :
        r ≤ 64 → route_records r (places route r empty_route) ≡ bytes_at s (8 + 3 * p) (33 * r)
    same-routes limit =
        table-written route_bytes route empty_route s 33 (8 + 3 * p) r limit
        (λ n. route-written s byte (route_place p n))

    joined :
        bytes_at s 0 (8 + (3 * p + 33 * r))
        ≡ bytes_at s 0 8 ++ (bytes_at s 8 (3 * p) ++ bytes_at s (8 + 3 * p) (33 * r))
    joined =
        bytes_at-add s 0 8 (3 * p + 33 * r)
        ∙ ap (λ (l : List ℕ). bytes_at s 0 8 ++ l) (bytes_at-add s 8 (3 * p) (33 * r))
