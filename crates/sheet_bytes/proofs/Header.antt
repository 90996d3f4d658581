-- The header and the length of a sheet: those of a station with counts in range have no fault, and
-- bytes without a fault begin with the header that would be written.
use mathlib.Core.Bool.{true, ◌&&◌, and-eq-true_iff}
use mathlib.Core.Path.{◌≡◌, refl, sym, ap, ap₂, ◌∙◌}
use mathlib.Core.List.{List, [], ◌∷◌, ◌++◌}
use Prim.Native.Nat.{ℕ, ◌+◌, ◌*◌, ◌≤◌}
use native.Mathlib.Nat.{add_assoc}
use native.Mathlib.Omega.{arith}
use borrow.Author.Tests.{eqb-true, le-ltb, eq-eqb}
use lib.Dec.{eqb}
use lib.ListN.{length, get_or, length-append}
use Rattle.bigendian.specs.BigEndian.{Bytes, be_bytes, bytes_at}
use Rattle.bigendian.proofs.Places.{bytes-number}
use Rattle.station.specs.declared.Station.{Station}
use Rattle.station.specs.Station.{turnout_at, route_at}
use Rattle.layout.specs.Layout.{has_mark, version, count_p, count_r, count_z}
use Rattle.layout.specs.Layout.{counts_kept, sheet_length, header_number}
use Rattle.layout.proofs.Header.{no-fault, in-range}
use Rattle.sheet_bytes.specs.SheetBytes.{header_bytes, turnout_bytes, route_bytes}
use Rattle.sheet_bytes.specs.SheetBytes.{turnout_records, route_records, sheet_bytes}
use Rattle.sheet_bytes.proofs.Records.{length-counted}

pub length-turnouts :
    (st : Station) → st.turnouts ≤ 64 →
    length (turnout_records st.turnouts st.turnout) ≡ 3 * st.turnouts
length-turnouts st limit =
    length-counted (λ n. turnout_bytes (turnout_at st n)) 3 (λ n. refl) st.turnouts limit

length-routes :
    (st : Station) → st.routes ≤ 64 →
    length (route_records st.routes st.route) ≡ 33 * st.routes
length-routes st limit =
    length-counted (λ n. route_bytes (route_at st n)) 33 (λ n. refl) st.routes limit

-- "The length is exactly 8 + 3P + 33R."
pub sheet-length :
    (st : Station) → st.turnouts ≤ 64 → st.routes ≤ 64 →
    length (sheet_bytes st) ≡ sheet_length st.turnouts st.routes
unfolding sheet_bytes
sheet-length st p-limit r-limit =
    let p = st.turnouts in
    let r = st.routes in
    let turnouts = turnout_records p st.turnout in
    let routes = route_records r st.route in
    let both = ap₂ (λ (a b : ℕ). a + b) (length-turnouts st p-limit) (length-routes st r-limit) in
    length-append (header_bytes p r st.zones) (turnouts ++ routes)
    ∙ ap (λ (n : ℕ). 8 + n) (length-append turnouts routes ∙ both)
    ∙ sym (add_assoc 8 (3 * p) (33 * r))

-- the sheet of a station whose counts are in range has no fault in its header
pub header-kept :
    (st : Station) → counts_kept st.turnouts st.routes st.zones ≡ true →
    header_number (sheet_bytes st) ≡ 0
unfolding header_number sheet_bytes
header-kept st counts =
    let p = st.turnouts in
    let r = st.routes in
    let range = in-range p r st.zones counts in
    let whole = sheet-length st range.1 range.2 in
    let header : 8 ≤ length (sheet_bytes st) = rw whole (omega arith) in
    rw (
      le-ltb (length (sheet_bytes st)) 8 header,
      counts,
      eq-eqb (length (sheet_bytes st)) (sheet_length p r) whole,
    )

-- what bytes have whose header has no fault
pub record Faultless (s : List ℕ) : Type 0 where
  pub mark : has_mark s ≡ true
  pub p-limit : count_p s ≤ 64
  pub r-limit : count_r s ≤ 64
  pub whole : length s ≡ sheet_length (count_p s) (count_r s)

pub faultless : (s : List ℕ) → header_number s ≡ 0 → Faultless s
faultless s h =
    let p = count_p s in
    let r = count_r s in
    let kept = no-fault s h in
    let range = in-range p r (count_z s) kept.2 in
    record {
      mark = kept.0;
      p-limit = range.1;
      r-limit = range.2;
      whole = eqb-true (length s) (sheet_length p r) kept.3;
    }

-- a sheet that is written is of version 2
pub written-version : (st : Station) → version (sheet_bytes st) ≡ 2
unfolding sheet_bytes
written-version st = refl

-- the header that would be written is the one that stands there, if it is of version 2
pub header-written :
    (s : List ℕ) → Bytes s → Faultless s → version s ≡ 2 →
    header_bytes (count_p s) (count_r s) (count_z s) ≡ bytes_at s 0 8
header-written s byte good second =
    let is-s = eqb (get_or s 0 0) 83 in
    let is-p = eqb (get_or s 1 0) 80 in
    let is-t = eqb (get_or s 2 0) 84 in
    let all = (and-eq-true_iff (is-s && is-p) is-t).0 good.mark in
    let two = (and-eq-true_iff is-s is-p).0 all.0 in
    let letter-s = sym (eqb-true (get_or s 0 0) 83 two.0) in
    let letter-p = sym (eqb-true (get_or s 1 0) 80 two.1) in
    let letter-t = sym (eqb-true (get_or s 2 0) 84 all.1) in
    let two_bytes = ap (be_bytes 2) (sym second) ∙ bytes-number 2 s 3 byte in
    let counts = count_p s ∷ count_r s ∷ count_z s ∷ [] in
    λ i. letter-s i ∷ letter-p i ∷ letter-t i ∷ (two_bytes i ++ counts)
