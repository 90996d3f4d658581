-- A route that passes the tests of a sheet has all that SHEET-5 to SHEET-9 (docs/RULES.md) ask of
-- it.
use mathlib.Core.Bool.{true, not, ◌||◌, and-eq-true_iff}
use mathlib.Core.Path.{◌≡◌}
use Prim.Native.Nat.{ℕ, ◌≤◌, ◌<◌}
use native.Mathlib.Omega.{arith}
use borrow.Author.Tests.{eqb-true, eq-eqb, not-true}
use lib.Dec.{eqb}
use lib.Bits.{bit_and}
use Rattle.sets.specs.Range.{all_from}
use Rattle.sets.specs.Sets.{has, is_empty, overlaps, within, count}
use Rattle.sets.proofs.Ranges.{all-below}
use Rattle.sets.proofs.Members.{among_below}
use Rattle.station.specs.declared.Route.{Route}
use Rattle.station.specs.declared.Station.{Station}
use Rattle.station.specs.Station.{turnout_at, route_at, turnout_count, zone_of, named_by}
use Rattle.groups.specs.Groups.{tied, whole}
use Rattle.sheet.specs.Accepted.{GoodRoute}
use Rattle.sheet.specs.Sheet.{all_turnouts, sets_kept, member_kept, good_route}
use Rattle.layout.proofs.Joined.{three, six, asked}

module _ (st : Station) where
  -- what the tests of a route say of each turnout
  good-members :
      (x : Route)
      → all_from (λ t. member_kept x t (turnout_at st t) (tied st t)) 0 (turnout_count st) ≡ true →
      (t : ℕ) → t < turnout_count st →
      (has (named_by x) t ≡ true → zone_of st t ≡ x.zone)
      × (has x.flank t ≡ true → within (tied st t) x.flank ≡ true)
      × (count (tied st t) ≡ 2
      → whole (bit_and (tied st t) (named_by x)) x.reverse ≡ true)
  good-members x h t l =
      let here =
      all-below (λ t. member_kept x t (turnout_at st t) (tied st t)) (turnout_count st) h t l in
      let named = has (named_by x) t in
      let in-zone = eqb (zone_of st t) x.zone in
      let flank = has x.flank t in
      let in-flank = within (tied st t) x.flank in
      let position = whole (bit_and (tied st t) (named_by x)) x.reverse in
      let two = eqb (count (tied st t)) 2 in
      let kept =
      three (not named || in-zone) (not flank || in-flank) (not two || position) here in (
        λ m. eqb-true (zone_of st t) x.zone (asked named in-zone kept.0 m),
        asked flank in-flank kept.1,
        λ e. asked two position kept.2 (eq-eqb (count (tied st t)) 2 e),
      )

  -- where the count of turnouts is in range, the tests read it as it stands
  pub good-route : st.turnouts ≤ 64 → (r : ℕ) → good_route st r ≡ true → GoodRoute st r
  unfolding good_route
  good-route limit r h =
      let x = route_at st r in
      let p = turnout_count st in
      let all = all_from (λ t. member_kept x t (turnout_at st t) (tied st t)) 0 p in
      let parts = (and-eq-true_iff (sets_kept p x) all).0 h in
      let over-flank = overlaps x.over x.flank in
      let over-exits = overlaps x.over x.exits in
      let flank-exits = overlaps x.flank x.exits in
      let among = within (named_by x) (all_turnouts p) in
      let empty = is_empty x.over in
      let reverse = within x.reverse (named_by x) in
      let sets =
      six (not over-flank) (not over-exits) (not flank-exits) among (not empty) reverse
      parts.0 in
      let below : (t : ℕ) → has (named_by x) t ≡ true → t < p =
      λ t. among_below p (named_by x) t sets.3 in
      let kept = good-members x parts.1 in
      record {
        over-flank = not-true over-flank sets.0;
        over-exits = not-true over-exits sets.1;
        flank-exits = not-true flank-exits sets.2;
        named-below = λ t m. omega (arith, below t m);
        named-zone = λ t m. (kept t (below t m)).0 m;
        runs-over = not-true empty sets.4;
        reverse-named = sets.5;
        flank-whole = λ t l. (kept t (omega arith)).1;
        one-position = λ t l. (kept t (omega arith)).2;
      }
