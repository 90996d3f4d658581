-- Machine types both ways: the sheet of a station whose numbers are of their machine types is
-- bytes, and the station that stands in bytes has numbers of their machine types.
use mathlib.Core.Bool.{Bool, true, false}
use mathlib.Core.Path.{◌≡◌, refl}
use mathlib.Core.List.{List, [], ◌∷◌, ◌++◌}
use Prim.Native.Nat.{ℕ, zero, suc, ◌+◌, ◌/◌, ◌%◌, ◌^◌, ◌≤◌, ◌<◌, min}
use native.Mathlib.Nat.{mod-lt}
use borrow.Author.Tests.{ltb-true, ltb-false}
use lib.Dec.{ltb, lit<}
use lib.ListN.{length, get_or, get_or-eq_default}
use Rattle.bigendian.specs.BigEndian.{Bytes, be_bytes}
use Rattle.bigendian.proofs.Places.{number_lt}
use Rattle.sets.specs.Table.{places}
use Rattle.sets.proofs.Tables.{length-places, get_d-places}
use Rattle.station.specs.declared.Turnout.{Turnout}
use Rattle.station.specs.declared.Route.{Route}
use Rattle.station.specs.declared.Station.{Station}
use Rattle.station.specs.Station.{empty_turnout, empty_route, turnout_at, route_at}
use Rattle.layout.specs.Layout.{count_p, count_r, station_in}
use Rattle.layout.specs.Layout.{turnout_in, turnout_place, route_in, route_place}
use Rattle.sheet_bytes.specs.SheetBytes.{header_bytes, turnout_bytes, route_bytes, records_from}
use Rattle.sheet_bytes.specs.SheetBytes.{turnout_records, route_records, sheet_bytes}
use Rattle.sheet_bytes.specs.Typed.{TypedTurnout, TypedRoute, TypedStation}

-- lists of bytes, put together
one_more : (b : ℕ) (s : List ℕ) → b < 256 → Bytes s → Bytes (b ∷ s)
one_more b s first rest zero = first
one_more b s first rest (suc i) = rest i

three : (a b c : ℕ) → a < 256 → b < 256 → c < 256 → Bytes (a ∷ b ∷ c ∷ [])
three a b c first second third =
    let last = one_more c [] third (λ i. lit< tt) in
    one_more a (b ∷ c ∷ []) first (one_more b (c ∷ []) second last)

joined : (s t : List ℕ) → Bytes s → Bytes t → Bytes (s ++ t)
joined [] t left right = right
joined (b ∷ s) t left right =
    one_more b (s ++ t) (left 0) (joined s t (λ i. left (suc i)) right)

number-bytes : (w n : ℕ) → Bytes (be_bytes w n)
number-bytes zero n = λ i. lit< tt
number-bytes (suc w) n =
    let digit = mod-lt (n / 256 ^ w) (lit< tt) in
    one_more (n / 256 ^ w % 256) (be_bytes w n) digit (number-bytes w n)

records-bytes :
    (f : ℕ → List ℕ) → ((n : ℕ) → Bytes (f n)) → (i k : ℕ) → Bytes (records_from f i k)
unfolding records_from
records-bytes f each i zero = λ j. lit< tt
records-bytes f each i (suc k) =
    joined (f i) (records_from f (i + 1) k) (each i) (records-bytes f each (i + 1) k)

header-bytes : (p r z : ℕ) → p < 256 → r < 256 → z < 256 → Bytes (header_bytes p r z)
header-bytes p r z p-fits r-fits z-fits =
    let mark = three 83 80 84 (lit< tt) (lit< tt) (lit< tt) in
    let counts = p ∷ r ∷ z ∷ [] in
    let counts-fit = three p r z p-fits r-fits z-fits in
    let version-fits = joined (be_bytes 2 2) counts (number-bytes 2 2) counts-fit in
    joined (83 ∷ 80 ∷ 84 ∷ []) (be_bytes 2 2 ++ counts) mark version-fits

turnout-bytes : (t : Turnout) → TypedTurnout t → Bytes (turnout_bytes t)
turnout-bytes t fits =
    three t.zone t.group t.drive fits.zone fits.group fits.drive

route-bytes : (r : Route) → TypedRoute r → Bytes (route_bytes r)
route-bytes r fits =
    let reverse = be_bytes 8 r.reverse in
    let exits = be_bytes 8 r.exits ++ reverse in
    let flank = be_bytes 8 r.flank ++ exits in
    let over = be_bytes 8 r.over ++ flank in
    let exits-fit = then r.exits reverse (number-bytes 8 r.reverse) in
    let flank-fits = then r.flank exits exits-fit in
    let over-fits = then r.over flank flank-fits in
    one_more r.zone over fits.zone over-fits
  where
    then : (n : ℕ) (s : List ℕ) → Bytes s → Bytes (be_bytes 8 n ++ s)
    then n s rest = joined (be_bytes 8 n) s (number-bytes 8 n) rest

-- the sheet of a station of machine types is bytes
pub bytes-of-sheet : (st : Station) → TypedStation st → Bytes (sheet_bytes st)
unfolding sheet_bytes
bytes-of-sheet st fits =
    let p = st.turnouts in
    let r = st.routes in
    let z = st.zones in
    let ts = turnout_records p st.turnout in
    let rs = route_records r st.route in
    let header-fits = header-bytes p r z fits.turnouts fits.routes fits.zones in
    let records-fit = joined ts rs turnouts-fit routes-fit in
    joined (header_bytes p r z) (ts ++ rs) header-fits records-fit
  where
    turnouts-fit : Bytes (turnout_records st.turnouts st.turnout)
    turnouts-fit =
        records-bytes (λ n. turnout_bytes (turnout_at st n))
        (λ n. turnout-bytes (turnout_at st n) (fits.turnout n)) 0 (min st.turnouts 64)

    routes-fit : Bytes (route_records st.routes st.route)
    routes-fit =
        records-bytes (λ n. route_bytes (route_at st n))
        (λ n. route-bytes (route_at st n) (fits.route n)) 0 (min st.routes 64)

-- what holds of each record that is read, and of the empty one, holds at every place of the table
pub each-place :
    {A : Type 0} (P : A → Type 0) (f : ℕ → A) (p : ℕ) (e : A) → ((n : ℕ) → P (f n)) → P e →
    (n : ℕ) → P (get_or (places f p e) n e)
each-place P f p e filled empty n = go (ltb n 64) refl (ltb n p) refl
  where
    go :
        (inside : Bool) → ltb n 64 ≡ inside → (counted : Bool) → ltb n p ≡ counted →
        P (get_or (places f p e) n e)
    go true q true c = rw (get_d-places f p e n e (ltb-true n 64 q), c) (filled n)
    go true q false c = rw (get_d-places f p e n e (ltb-true n 64 q), c) empty
    go false q counted c =
        let past : length (places f p e) ≤ n = rw (length-places f p e) (ltb-false n 64 q) in
        rw (get_or-eq_default (places f p e) e past) empty

turnout-typed : (s : List ℕ) → Bytes s → (at : ℕ) → TypedTurnout (turnout_in s at)
turnout-typed s byte at =
    record { zone = byte at; group = byte (at + 1); drive = byte (at + 2) }

route-typed : (s : List ℕ) → Bytes s → (at : ℕ) → TypedRoute (route_in s at)
route-typed s byte at = record {
  zone = byte at;
  over = number_lt 8 s (at + 1) byte;
  flank = number_lt 8 s (at + 9) byte;
  exits = number_lt 8 s (at + 17) byte;
  reverse = number_lt 8 s (at + 25) byte;
}

pub no-turnout-typed : TypedTurnout empty_turnout
no-turnout-typed = record { zone = lit< tt; group = lit< tt; drive = lit< tt }

no-route-typed : TypedRoute empty_route
no-route-typed = record {
  zone = lit< tt;
  over = lit< tt;
  flank = lit< tt;
  exits = lit< tt;
  reverse = lit< tt;
}

-- the station in bytes is of machine types
pub station-typed : (s : List ℕ) → Bytes s → TypedStation (station_in s)
unfolding station_in
station-typed s byte = record {
  turnouts = byte 5;
  routes = byte 6;
  zones = byte 7;
  turnout-places = length-places turnout (count_p s) empty_turnout;
  route-places = length-places route (count_r s) empty_route;
  turnout = each-place TypedTurnout turnout (count_p s) empty_turnout turnouts no-turnout-typed;
  route = each-place TypedRoute route (count_r s) empty_route routes no-route-typed;
}
  where
    turnout : ℕ → Turnout
    turnout n = turnout_in s (turnout_place n)

    route : ℕ → Route
    route n = route_in s (route_place (count_p s) n)

    turnouts : (n : ℕ) → TypedTurnout (turnout n)
    turnouts n = turnout-typed s byte (turnout_place n)

    routes : (n : ℕ) → TypedRoute (route n)
    routes n = route-typed s byte (route_place (count_p s) n)
