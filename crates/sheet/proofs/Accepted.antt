-- The station of an accepted sheet of either version passes the tests of version 2, has all that the
-- rules on sheets (SHEET-1 to SHEET-14 of docs/RULES.md) ask, and is accepted as it is.
use mathlib.Core.Bool.{Bool, true, false, cond, not}
use mathlib.Core.Logic.{◌≢◌}
use mathlib.Core.Path.{◌≡◌, refl, sym, ap, ◌∙◌}
use mathlib.Core.List.{List}
use Prim.Native.Nat.{ℕ, ◌<◌}
use native.Mathlib.Omega.{arith}
use borrow.Author.Tests.{eqb-true, eqb-false, ltb-false, not-false}
use lib.Dec.{eqb, ltb}
use Rattle.sets.specs.Range.{first_from}
use Rattle.sets.proofs.Ranges.{none_below, not_found}
use Rattle.sets.proofs.Tables.{places-past}
use Rattle.station.specs.declared.Station.{Station}
use Rattle.sheet.specs.Sheet.{Sheet}
use Rattle.station.specs.Station.{empty_turnout, empty_route, turnout_at, turnout_count, route_count}
use Rattle.layout.specs.Layout.{count_p, count_r, header_number, version, turnout_in}
use Rattle.layout.specs.Layout.{turnout_place, route_in, route_place, station_in}
use Rattle.layout.proofs.Header.{no-fault}
use Rattle.layout.specs.Counts.{GoodCounts}
use Rattle.layout.proofs.Counts.{counts-in-range}
use Rattle.group_records.proofs.Guaranteed.{guaranteed}
use Rattle.sheet.specs.Accepted.{Passed, Accepted, EachAccepted}
use Rattle.partner_records.specs.PartnerRecords as partners
use Rattle.partner_records.specs.PartnerRecords.{renumbered, with_number, pair_number}
use Rattle.group_records.specs.GroupRecords.{good_turnout, bad_turnout}
use Rattle.sheet.specs.Sheet.{good_route, bad_route, refused_sheet, accepted_sheet, routes_judged}
use Rattle.sheet.specs.Sheet.{judged, judged_by_partners, judged_by, meant, read_sheet}
use Rattle.partner_records.proofs.Partnered.{partnered}
use Rattle.partner_records.proofs.Renumbered.{good-renumbered}
use Rattle.sheet.proofs.AcceptedRoute.{good-route}

-- the counts of a header without a fault are in range
good-counts : (s : List ℕ) → header_number s ≡ 0 → GoodCounts (station_in s)
unfolding station_in
good-counts s h = counts-in-range (station_in s) (no-fault s h).2

-- where no bad one is found below k, each is good
none-bad :
    (good : ℕ → Bool) (k : ℕ) → ltb (first_from (λ n. not (good n)) 0 k) k ≡ false → (n : ℕ) →
    n < k → good n ≡ true
none-bad good k h n l =
    let past = ltb-false (first_from (λ n. not (good n)) 0 k) k h in
    not-false (good n) (none_below (λ n. not (good n)) k past n l)

-- where the answer is no refusal, the test for one fails
unrefused :
    (b : Bool) (r x : Sheet) → r.code ≢ 0 → (cond b r x).code ≡ 0 → (b ≡ false) × (cond b r x ≡ x)
unrefused true r x refusal h = absurd (refusal h)
unrefused false r x refusal h = (refl, refl)

-- routes judged without a refusal: the answer, and no bad one among those counted
routes-passed :
    (st : Station) → (routes_judged st).code ≡ 0 →
    (routes_judged st ≡ accepted_sheet st)
    × ((r : ℕ) → r < route_count st → good_route st r ≡ true)
unfolding routes_judged bad_route
routes-passed st h =
    let bad-route = ltb (bad_route st) (route_count st) in
    let routes =
    unrefused bad-route (refused_sheet 6 (bad_route st)) (accepted_sheet st) (λ e. omega arith) h in
    (routes.1, none-bad (good_route st) (route_count st) routes.0)

-- a station judged without a refusal: the answer, and no bad record among those counted
pub passed :
    (st : Station) → (judged st).code ≡ 0 →
    (judged st ≡ accepted_sheet st)
    × ((n : ℕ) → n < turnout_count st → good_turnout st n ≡ true)
    × ((r : ℕ) → r < route_count st → good_route st r ≡ true)
unfolding judged bad_turnout
passed st h =
    let bad = ltb (bad_turnout st) (turnout_count st) in
    let refused = refused_sheet 5 (bad_turnout st) in
    let turnouts = unrefused bad refused (routes_judged st) (λ e. omega arith) h in
    let routes = routes-passed st (rw turnouts.1 at h) in (
      turnouts.1 ∙ routes.0,
      none-bad (good_turnout st) (turnout_count st) turnouts.0,
      routes.1,
    )

-- the same by partners
passed-partners :
    (st : Station) → (judged_by_partners st).code ≡ 0 →
    (judged_by_partners st ≡ accepted_sheet (renumbered st))
    × ((n : ℕ) → n < turnout_count st → partners.good_turnout st n ≡ true)
    × ((r : ℕ) → r < route_count st → good_route (renumbered st) r ≡ true)
unfolding judged_by_partners partners.bad_turnout renumbered
passed-partners st h =
    let bad = ltb (partners.bad_turnout st) (turnout_count st) in
    let refused = refused_sheet 5 (partners.bad_turnout st) in
    let turnouts = unrefused bad refused (routes_judged (renumbered st)) (λ e. omega arith) h in
    let routes = routes-passed (renumbered st) (rw turnouts.1 at h) in (
      turnouts.1 ∙ routes.0,
      none-bad (partners.good_turnout st) (turnout_count st) turnouts.0,
      routes.1,
    )

-- a station that passes the tests has all that the rules ask
pub all_asked : (st : Station) → Passed st → Accepted st
all_asked st p = record {
  counts = p.counts;
  turnout = λ n l. guaranteed st p.counts n (p.turnout n l);
  route = λ r l. good-route st p.counts.turnouts-limit r (p.route r l);
  past-turnouts = p.past-turnouts;
  past-routes = p.past-routes;
}

-- the station in the bytes of a sheet of version 2
by-groups :
    (s : List ℕ) → GoodCounts (station_in s) → (judged (station_in s)).code ≡ 0 →
    (judged (station_in s) ≡ accepted_sheet (station_in s)) × Passed (station_in s)
unfolding station_in
by-groups s counts h =
    let judgement = passed (station_in s) h in
    let limit = counts.turnouts-limit in
    let routes-limit = counts.routes-limit in (
      judgement.0,
      record {
        counts = counts;
        turnout = λ n l. judgement.1 n (omega arith);
        route = λ r l. judgement.2 r (omega arith);
        past-turnouts = places-past (λ i. turnout_in s (turnout_place i)) (count_p s) empty_turnout;
        past-routes = places-past (λ i. route_in s (route_place (count_p s) i)) (count_r s) empty_route;
      },
    )

-- and of version 1
by-partners :
    (s : List ℕ) → GoodCounts (station_in s) → (judged_by_partners (station_in s)).code ≡ 0 →
    (judged_by_partners (station_in s) ≡ accepted_sheet (renumbered (station_in s)))
    × Passed (renumbered (station_in s))
unfolding station_in renumbered
by-partners s counts h =
    let st = station_in s in
    let judgement = passed-partners st h in
    let limit = counts.turnouts-limit in
    let routes-limit = counts.routes-limit in (
      judgement.0,
      record {
        counts = record {
          some-turnout = counts.some-turnout;
          turnouts-limit = counts.turnouts-limit;
          routes-limit = counts.routes-limit;
          some-zone = counts.some-zone;
          zones-limit = counts.zones-limit;
        };
        turnout =
            good-renumbered st counts
            (λ n l. partnered st counts n (judgement.1 n (omega arith)));
        route = λ r l. judgement.2 r (omega arith);
        past-turnouts =
            places-past (λ n. with_number (turnout_at st n) (pair_number st n)) st.turnouts
            empty_turnout;
        past-routes = places-past (λ i. route_in s (route_place (count_p s) i)) (count_r s) empty_route;
      },
    )

module _ (s : List ℕ) (code-zero : (read_sheet s).code ≡ 0) where
  -- no fault in the header, and the answer is the judgement of the station in the bytes
  pub headed : (header_number s ≡ 0) × (read_sheet s ≡ judged_by (version s) (station_in s))
  unfolding read_sheet
  headed = go (eqb (header_number s) 0) refl code-zero
    where
      judgement : Sheet
      judgement = judged_by (version s) (station_in s)

      go :
          (b : Bool) → eqb (header_number s) 0 ≡ b
          → (cond b judgement (refused_sheet (header_number s) 0)).code ≡ 0 →
          (header_number s ≡ 0)
          × (cond b judgement (refused_sheet (header_number s) 0) ≡ judgement)
      go true e h = (eqb-true (header_number s) 0 e, refl)
      go false e h = absurd (eqb-false (header_number s) 0 e h)

  -- the answer, and that its station passes the tests
  accepted-as :
      (read_sheet s ≡ accepted_sheet (meant (version s) (station_in s)))
      × Passed (meant (version s) (station_in s))
  accepted-as =
      let rest = go (eqb (version s) 1) (rw headed.1 at code-zero) in
      (headed.1 ∙ rest.0, rest.1)
    where
      st : Station
      st = station_in s

      counts : GoodCounts st
      counts = good-counts s headed.0

      go :
          (one : Bool) → (cond one (judged_by_partners st) (judged st)).code ≡ 0 →
          (cond one (judged_by_partners st) (judged st) ≡ accepted_sheet (cond one (renumbered st) st))
          × Passed (cond one (renumbered st) st)
      go true h = by-partners s counts h
      go false h = by-groups s counts h

  -- the whole answer
  pub accepted-whole : read_sheet s ≡ accepted_sheet (read_sheet s).station
  accepted-whole =
      accepted-as.0 ∙ ap accepted_sheet (sym (ap (λ (x : Sheet). x.station) accepted-as.0))

  -- the station of an accepted sheet is the one that its bytes mean
  pub station-of : (read_sheet s).station ≡ meant (version s) (station_in s)
  station-of = ap (λ (x : Sheet). x.station) accepted-as.0

  -- the station of an accepted sheet passes the tests
  pub passes : Passed (read_sheet s).station
  passes = rw station-of accepted-as.1

  -- and so has all that the rules ask
  pub accepted : Accepted (read_sheet s).station
  accepted = all_asked (read_sheet s).station passes

pub each-accepted : EachAccepted
each-accepted = accepted

-- a station that passes the tests is accepted as it is
pub fixed : (st : Station) → Passed st → judged st ≡ accepted_sheet st
unfolding judged routes_judged bad_turnout bad_route
fixed st p =
    rw (
      not_found (good_turnout st) (turnout_count st) (λ n l. p.turnout n (omega arith)),
      not_found (good_route st) (route_count st) (λ r l. p.route r (omega arith)),
    )
