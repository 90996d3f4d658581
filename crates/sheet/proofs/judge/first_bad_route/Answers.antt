use Rattle.std.proofs.Common.{◌≡◌, ℕ, ◌-◌, ◌≤◌, ◌<◌, List, None, Some, true, false, sym, ap, ◌∙◌, rules, arith}
use mathlib.Core.Path.{ap₂}
use borrow.Author.Tests.{lt-ltb, le-ltb}
use Prim.Native.Nat.{min}
use lib.ListN.{get_or}
use Rattle.sets.specs.Range.{all_from, first_from}
use Rattle.sets.specs.Table.{places}
use Rattle.sets.proofs.Ranges.{all-next, all_end, first_next, first-end}
use Rattle.sets.proofs.Tables.{places-below}
use Rattle.station.specs.declared.Station.{Station}
use Rattle.station.specs.declared.Route.{Route}
use Rattle.station.specs.Station.{turnout_at, route_at, turnout_count, route_count}
use Rattle.groups.specs.Groups.{tied, tied_among}
use Rattle.sheet.specs.Sheet.{member_by, pair_in, good_route, bad_route}
use Rattle.group_records.specs.GroupRecords.{found_below}
use Rattle.sheet.proofs.ByPair.{by-pair}
use Rattle.sheet.proofs.judge.first_bad_route.Invariants.{test, bad_for, bad}
use Rattle.sheet.proofs.judge.first_bad_route.Goals as goal

-- the rule, by the numbers that the code has
found :
    (st : Station) (p n : ℕ) → p ≡ turnout_count st → n ≡ route_count st →
    bad_route st ≡ first_from (bad p st) 0 n
unfolding bad_route good_route
found st p n ep en =
    let limit : turnout_count st ≡ min p 64 = omega arith in
    ap (λ (m : ℕ). first_from (bad_for m (turnout_count st) st) 0 (route_count st)) limit ∙ rw (ep, en)

-- the test of a turnout, by the tables that the code has
by-tables :
    (st : Station) (r : Route) (k : ℕ) (ties pairs : List ℕ)
    → ties ≡ places (tied_among st.turnouts st.turnout) st.turnouts 0
    → pairs ≡ places (λ j. pair_in (get_or ties j 0)) st.turnouts 0 → k < turnout_count st
    → member_by r k (turnout_at st k) (get_or ties k 0) (get_or pairs k 0) ≡ test st r k
by-tables st r k ties pairs et ep below =
    let group : get_or ties k 0 ≡ tied st k =
    ap (λ (l : List ℕ). get_or l k 0) et
    ∙ places-below (tied_among st.turnouts st.turnout) st.turnouts 0 k below in
    let pair : get_or pairs k 0 ≡ pair_in (tied st k) =
    ap (λ (l : List ℕ). get_or l k 0) ep
    ∙ places-below (λ j. pair_in (get_or ties j 0)) st.turnouts 0 k below
    ∙ ap pair_in group in
    ap₂ (λ (g q : ℕ). member_by r k (turnout_at st k) g q) group pair
    ∙ by-pair r k (turnout_at st k) (tied st k)

-- what is found below the count of routes, and what is not
told-at : (b k i : ℕ) → b ≡ i → i < k → Some i ≡ found_below b k
told-at b k i e l = rw (e, lt-ltb i k l)

told-none : (b k : ℕ) → k ≤ b → None ≡ found_below b k
told-none b k l = rw (le-ltb b k l)

pub loop-k-preserved : goal.loop-k-preserved
loop-k-preserved c =
    let st = c.args.st in
    let p = c.turnout_count-p.result in
    let r = route_at st c.from.result in
    let k = c.loop-k.k in
    let below : k < turnout_count st = omega arith in
    let tested =
    by-tables st r k c.ties-tied.result c.pairs_in-pairs.result c.ties-tied.ensures c.pairs_in-pairs.ensures below in
    let passes : test st r k ≡ true = sym (c.member_kept.ensures ∙ tested) ∙ c.if-not-member_kept.false in
    (c.loop-k.invariant.0, c.loop-k.invariant.1 ∙ all-next (test st r) k p c.loop-k-test.true ∙ rw passes)

pub routes-preserved : goal.routes-preserved
routes-preserved c =
    let st = c.args.st in
    let p = c.turnout_count-p.result in
    let n = c.min-i-end.result in
    let i = c.routes.i in
    let k = c.loop-k.k in
    let r = route_at st c.from.result in
    let sets = sym c.sets_kept.ensures ∙ c.if-not-sets_kept.false in
    let ended : k ≡ p = omega arith in
    let all =
    c.loop-k.invariant.1 ∙ ap (λ (j : ℕ). all_from (test st r) j (p - j)) ended ∙ all_end (test st r) p in
    let passes : bad p st c.from.result ≡ false = rw (sets, all) in
    let good : bad p st i ≡ false = ap (bad p st) (sym c.from.ensures) ∙ passes in
    (c.loop-k.invariant.0, c.routes.invariant.1 ∙ first_next (bad p st) i n c.routes-test.true ∙ rw good)

pub returns-after-routes : goal.returns-after-routes
returns-after-routes c =
    let st = c.args.st in
    let p = c.turnout_count-p.result in
    let n = c.min-i-end.result in
    let whole : n ≡ route_count st = search rules in
    let ended : c.routes.i ≡ n = omega arith in
    let start = found st p n c.turnout_count-p.ensures whole in
    let left =
    start ∙ c.routes.invariant.1 ∙ ap (λ (j : ℕ). first_from (bad p st) j (n - j)) ended
    ∙ first-end (bad p st) n in
    c.routes.invariant.0 ∙ told-none (bad_route st) (route_count st) (omega (arith, left, whole))

pub returns-then-not-sets_kept : goal.returns-then-not-sets_kept
returns-then-not-sets_kept c =
    let st = c.args.st in
    let p = c.turnout_count-p.result in
    let n = c.min-i-end.result in
    let i = c.routes.i in
    let whole : n ≡ route_count st = search rules in
    let sets = sym c.sets_kept.ensures ∙ c.if-not-sets_kept.true in
    let fails : bad p st c.from.result ≡ true = rw sets in
    let now-bad : bad p st i ≡ true = ap (bad p st) (sym c.from.ensures) ∙ fails in
    let start = found st p n c.turnout_count-p.ensures whole in
    let here : bad_route st ≡ i =
    start ∙ c.routes.invariant.1 ∙ first_next (bad p st) i n c.routes-test.true ∙ rw now-bad in
    told-at (bad_route st) (route_count st) i here (omega (arith, whole))

pub returns-then-not-member_kept : goal.returns-then-not-member_kept
returns-then-not-member_kept c =
    let st = c.args.st in
    let p = c.turnout_count-p.result in
    let n = c.min-i-end.result in
    let i = c.routes.i in
    let r = route_at st c.from.result in
    let k = c.loop-k.k in
    let whole : n ≡ route_count st = search rules in
    let sets = sym c.sets_kept.ensures ∙ c.if-not-sets_kept.false in
    let below : k < turnout_count st = omega arith in
    let tested =
    by-tables st r k c.ties-tied.result c.pairs_in-pairs.result c.ties-tied.ensures c.pairs_in-pairs.ensures below in
    let member : test st r k ≡ false = sym (c.member_kept.ensures ∙ tested) ∙ c.if-not-member_kept.true in
    let some = c.loop-k.invariant.1 ∙ all-next (test st r) k p c.loop-k-test.true in
    let fails : bad p st c.from.result ≡ true = rw (sets, some, member) in
    let now-bad : bad p st i ≡ true = ap (bad p st) (sym c.from.ensures) ∙ fails in
    let start = found st p n c.turnout_count-p.ensures whole in
    let here : bad_route st ≡ i =
    start ∙ c.routes.invariant.1 ∙ first_next (bad p st) i n c.routes-test.true ∙ rw now-bad in
    told-at (bad_route st) (route_count st) i here (omega (arith, whole))
