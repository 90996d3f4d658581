-- A station is described by a sheet exactly when it passes the reader's tests.
use mathlib.Core.Bool.{Bool, true, false}
use mathlib.Core.List.{List}
use mathlib.Core.Path.{◌≡◌, refl, ap, ◌∙◌}
use Prim.Native.Nat.{ℕ, ◌+◌, ◌-◌, ◌≤◌, min}
use native.Mathlib.Omega.{arith}
use borrow.Author.Tests.{eqb-true, eq-eqb, ltb-true, ltb-false}
use lib.Dec.{eqb, ltb}
use lib.ListN.{length, get_or, get_or-eq_default}
use Rattle.sets.proofs.Ranges.{all-at, all-from}
use Rattle.station.specs.declared.Turnout.{Turnout}
use Rattle.station.specs.declared.Route.{Route}
use Rattle.station.specs.declared.Station.{Station}
use Rattle.station.specs.Station.{empty_turnout, empty_route}
use Rattle.layout.specs.Layout.{counts_kept}
use Rattle.layout.proofs.Joined.{three, four, five}
use Rattle.sheet.specs.Sheet.{Sheet}
use Rattle.sheet.specs.Accepted.{Passed}
use Rattle.sheet.specs.Sheet.{judged}
use Rattle.layout.proofs.Counts.{counts-in-range, counts-kept}
use Rattle.sheet.proofs.Accepted.{passed, fixed}
use Rattle.sheet_bytes.specs.Typed.{TypedStation}
use Rattle.sheet_writer.specs.Past.{is_zero_turnout, is_zero_route}
use Rattle.sheet_writer.specs.Past.{all_past, turnouts_end, routes_end}
use Rattle.sheet_writer.specs.Writer.{described}

-- the empty records are those with every number 0
zero-turnout : (t : Turnout) → is_zero_turnout t ≡ true → t ≡ empty_turnout
zero-turnout t h =
    let each = three (eqb t.zone 0) (eqb t.group 0) (eqb t.drive 0) h in
    let zone = eqb-true t.zone 0 each.0 in
    let group = eqb-true t.group 0 each.1 in
    let drive = eqb-true t.drive 0 each.2 in
    λ i. record { zone = zone i; group = group i; drive = drive i }

zero-route : (r : Route) → is_zero_route r ≡ true → r ≡ empty_route
zero-route r h =
    let each =
    five (eqb r.zone 0) (eqb r.over 0) (eqb r.flank 0) (eqb r.exits 0)
    (eqb r.reverse 0) h in
    let zone = eqb-true r.zone 0 each.0 in
    let over = eqb-true r.over 0 each.1 in
    let flank = eqb-true r.flank 0 each.2 in
    let exits = eqb-true r.exits 0 each.3 in
    let reverse = eqb-true r.reverse 0 each.4 in
    λ i. record {
      zone = zone i;
      over = over i;
      flank = flank i;
      exits = exits i;
      reverse = reverse i;
    }

-- a table whose test for e passes from the count on is e from there on, and the other way round
module _
    {A : Type 0} (l : List A) (e : A) (is_empty : A → Bool) (count : ℕ) (limit : count ≤ 64) where
  empty-past :
      length l ≡ 64 → ((x : A) → is_empty x ≡ true → x ≡ e)
      → all_past (λ n. is_empty (get_or l n e)) count ≡ true
      → (n : ℕ) → count ≤ n → get_or l n e ≡ e
  empty-past whole means all n past = go (ltb n 64) refl
    where
      go : (inside : Bool) → ltb n 64 ≡ inside → get_or l n e ≡ e
      go true q =
          let below = ltb-true n 64 q in
          let place : min count 64 + (n - min count 64) ≡ n = omega (arith, past, limit) in
          let test = all-at (λ k. is_empty (get_or l k e)) (min count 64) (64 - min count 64) all
          (n - min count 64) (omega (arith, below, past, limit)) in
          means (get_or l n e) (rw place at test)
      go false q = get_or-eq_default l e (rw whole (ltb-false n 64 q))

  past-empty :
      is_empty e ≡ true → ((n : ℕ) → count ≤ n → get_or l n e ≡ e)
      → all_past (λ n. is_empty (get_or l n e)) count ≡ true
  past-empty holds past =
      all-from (λ k. is_empty (get_or l k e)) (min count 64) (64 - min count 64)
      (λ n from. ap is_empty (past n (omega (arith, from, limit))) ∙ holds)

-- described: it passes the reader's tests
pub described-passes : (st : Station) → TypedStation st → described st ≡ true → Passed st
unfolding described turnouts_end routes_end
described-passes st fits h =
    let p = st.turnouts in
    let r = st.routes in
    let ts = st.turnout in
    let rs = st.route in
    let in_order = counts_kept p r st.zones in
    let kept = four in_order (eqb (judged st).code 0) (turnouts_end p ts) (routes_end r rs) h in
    let counts = counts-in-range st kept.0 in
    let judgement = passed st (eqb-true (judged st).code 0 kept.1) in
    let p-limit = counts.turnouts-limit in
    let r-limit = counts.routes-limit in
    record {
      counts = counts;
      turnout = λ n l. judgement.1 n (omega (arith, l, p-limit));
      route = λ n l. judgement.2 n (omega (arith, l, r-limit));
      past-turnouts =
          empty-past ts empty_turnout is_zero_turnout p p-limit
          fits.turnout-places zero-turnout kept.2;
      past-routes =
          empty-past rs empty_route is_zero_route r r-limit
          fits.route-places zero-route kept.3;
    }

-- what passes the tests is described
pub passed-described : (st : Station) → Passed st → described st ≡ true
unfolding described turnouts_end routes_end
passed-described st h =
    let counts = h.counts in
    let good : (judged st).code ≡ 0 = ap (λ (a : Sheet). a.code) (fixed st h) in
    rw (
      counts-kept st counts,
      eq-eqb (judged st).code 0 good,
      past-empty st.turnout empty_turnout is_zero_turnout st.turnouts
          counts.turnouts-limit refl h.past-turnouts,
      past-empty st.route empty_route is_zero_route st.routes
          counts.routes-limit refl h.past-routes,
    )
