-- What reading gives, by what the code finds one after another: the header's number, the turnouts, the
-- routes.
use mathlib.Core.Bool.{cond}
use mathlib.Core.List.{List}
use mathlib.Core.Path.{◌≡◌, sym, ap, ◌∙◌}
use Prim.Native.Nat.{ℕ}
use native.Mathlib.Omega.{arith}
use borrow.Author.Tests.{eq-eqb, ne_eqb}
use lib.Dec.{eqb}
use Rattle.station.specs.declared.Turnout.{Turnout}
use Rattle.station.specs.declared.Station.{Station}
use Rattle.station.specs.Station.{turnouts_alone}
use Rattle.layout.specs.Layout.{header_number, version, station_in}
use Rattle.sheet.specs.Sheet.{Finding}
use Rattle.sheet.specs.Sheet.{refused_sheet, routes_judged, finding_of, sheet_by, turnouts_found}
use Rattle.sheet.specs.Sheet.{meant, judged, read_sheet, sheet_of, found_of}
use Rattle.std.specs.Prelude.{Result, Ok, Err}
use Rattle.refusals.specs.declared.Refusal.{Refusal}
use Rattle.refusals.specs.Numbers.{number_of}
use Rattle.layout.proofs.Header.{header-most}
use Rattle.refusals.proofs.Numbers.{some-number, no-index}
use Rattle.sheet.proofs.Judging.{routes-finding, by-found, found-alone, numbered-alone}

-- a header with a fault
pub header-refused :
    (s : List ℕ) (e : Refusal) → number_of e ≡ header_number s → sheet_of (Err e) ≡ read_sheet s
unfolding read_sheet
header-refused s e same =
    let some = some-number e in
    let most = header-most s in
    let none = no-index e (λ q. omega arith) (λ q. omega arith) in
    rw (← same, none, ne_eqb (number_of e) 0 (λ q. omega arith))

pub after-turnouts :
    (s : List ℕ) (v : ℕ) (st : Station) (f : Finding)
    → header_number s ≡ 0 → v ≡ version s → st ≡ station_in s
    → f ≡ turnouts_found v (turnouts_alone st.turnouts st.zones st.turnout)
    → read_sheet s
    ≡ cond (eqb f.code 0) (routes_judged (meant v st)) (refused_sheet f.code f.index)
unfolding read_sheet
after-turnouts s v st f good ev es ef =
    rw (eq-eqb (header_number s) 0 good, ← ev, ← es) (by-found v st f (ef ∙ found-alone v st))

-- a bad turnout
pub turnouts-refused :
    (s : List ℕ) (v : ℕ) (st : Station) (e : Refusal)
    → header_number s ≡ 0 → v ≡ version s → st ≡ station_in s
    → found_of {A = Unit} (Err e) ≡ turnouts_found v (turnouts_alone st.turnouts st.zones st.turnout)
    → sheet_of (Err e) ≡ read_sheet s
turnouts-refused s v st e good ev es ef =
    let some = some-number e in
    let found = found_of {A = Unit} (Err e) in
    sym (after-turnouts s v st found good ev es ef ∙ rw (ne_eqb (number_of e) 0 (λ q. omega arith)))

-- a station with other turnouts
abbrev pub with_turnouts : Station → List Turnout → Station
with_turnouts st ts = record {
  turnouts = st.turnouts;
  routes = st.routes;
  zones = st.zones;
  turnout = ts;
  route = st.route;
}

pub after-routes :
    (v : ℕ) (st : Station) (ts : List Turnout) (f : Finding)
    → ts ≡ (meant v (turnouts_alone st.turnouts 0 st.turnout)).turnout
    → f ≡ finding_of (routes_judged (with_turnouts st ts))
    → routes_judged (meant v st) ≡ sheet_by f (with_turnouts st ts)
after-routes v st ts f et ef =
    let same : with_turnouts st ts ≡ meant v st =
    ap (λ (l : List Turnout). with_turnouts st l) et ∙ numbered-alone v st in
    ap routes_judged (sym same)
    ∙ routes-finding (with_turnouts st ts)
    ∙ ap (λ (g : Finding). sheet_by g (with_turnouts st ts)) (sym ef)

-- good turnouts, and what the routes are judged
pub routes-read :
    (s : List ℕ) (v : ℕ) (st : Station) (ts : List Turnout) (r : Result Unit Refusal)
    → header_number s ≡ 0 → v ≡ version s → st ≡ station_in s
    → found_of {A = Unit} (Ok tt) ≡ turnouts_found v (turnouts_alone st.turnouts st.zones st.turnout)
    → ts ≡ (meant v (turnouts_alone st.turnouts 0 st.turnout)).turnout
    → found_of r ≡ finding_of (routes_judged (with_turnouts st ts))
    → read_sheet s ≡ sheet_by (found_of r) (with_turnouts st ts)
routes-read s v st ts r good ev es ef et er =
    after-turnouts s v st (found_of {A = Unit} (Ok tt)) good ev es ef ∙ after-routes v st ts (found_of r) et er

pub routes-refused :
    (e : Refusal) (st : Station) → sheet_by (found_of {A = Unit} (Err e)) st ≡ sheet_of (Err e)
routes-refused e st =
    let some = some-number e in
    rw (ne_eqb (number_of e) 0 (λ q. omega arith))

-- a station judged as one of version 2, with a bad turnout
pub judge-refused :
    (st : Station) (e : Refusal)
    → found_of {A = Unit} (Err e) ≡ turnouts_found 2 (turnouts_alone st.turnouts st.zones st.turnout)
    → found_of {A = Unit} (Err e) ≡ finding_of (judged st)
judge-refused st e ef =
    let some = some-number e in
    rw (
      by-found 2 st (found_of {A = Unit} (Err e)) (ef ∙ found-alone 2 st),
      ne_eqb (number_of e) 0 (λ q. omega arith),
    )

-- and with good ones
pub judge-routes :
    (st : Station)
    → found_of {A = Unit} (Ok tt) ≡ turnouts_found 2 (turnouts_alone st.turnouts st.zones st.turnout)
    → judged st ≡ routes_judged st
judge-routes st ef = by-found 2 st (found_of {A = Unit} (Ok tt)) (ef ∙ found-alone 2 st)
