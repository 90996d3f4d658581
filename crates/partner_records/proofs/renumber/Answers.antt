use Rattle.std.proofs.Common.{◌≡◌, ℕ, ◌+◌, ◌≤◌, ◌<◌, List, Bool, true, false, cond, refl, sym, ap, ◌∙◌, rules, arith}
use mathlib.Core.Path.{ap₂}
use Prim.Native.Nat.{min}
use borrow.Author.Tests.{lt-ltb}
use lib.Dec.{eqb}
use lib.ListN.{get_or, set}
use Rattle.sets.specs.Range.{count_from}
use Rattle.sets.specs.Table.{places}
use Rattle.sets.proofs.Tables.{get_d-places, places-none, places-next, places-limit}
use Rattle.sets.proofs.Totals.{count-more}
use Rattle.station.specs.declared.Turnout.{Turnout}
use Rattle.station.specs.Station.{empty_turnout, turnouts_alone, turnout_count}
use Rattle.partner_records.specs.PartnerRecords.{pair_number, with_number, renumbered}
use Rattle.partner_records.proofs.renumber.Invariants.{lower, below-it, number_by, numbered}
use Rattle.partner_records.proofs.renumber.Goals as goal

-- a count stored at its place, and a number found among those stored
module _ (f : ℕ → ℕ) (i : ℕ) (inside : i < 64) (below : List ℕ) (e : below ≡ places f i 0) where
  stored : (found : ℕ) → found ≡ f i → set below i found ≡ places f (i + 1) 0
  stored found q = ap₂ (λ (l : List ℕ) (x : ℕ). set l i x) e q ∙ places-next f i 0 inside

  number-found :
      (found : ℕ) → found ≡ f i → (t : Turnout)
      → cond (eqb t.group 255) 255 (get_or (set below i found) (min i t.group) 0)
      ≡ number_by f i t
  number-found found q t =
      let low = min i t.group in
      ap (λ (x : ℕ). cond (eqb t.group 255) 255 x)
      (ap (λ (l : List ℕ). get_or l low 0) (stored found q)
      ∙ get_d-places f (i + 1) 0 low 0 (omega (arith, inside))
      ∙ ap (λ (b : Bool). cond b (f low) 0) (lt-ltb low (i + 1) (omega arith)))

one_more : (b : Bool) {f r i : ℕ} → f ≤ i → r ≡ f + cond b 1 0 → r ≤ i + 1
one_more true h e = omega arith
one_more false h e = omega arith

pub loop-i-init : goal.loop-i-init
unfolding count_from
loop-i-init c =
    let n = c.min-n.result in
    let old = c.args.old in (
      search rules,
      refl,
      sym (places-none (below-it n old) 0),
      sym (places-none (numbered n old) empty_turnout),
    )

pub loop-i-preserved : goal.loop-i-preserved
loop-i-preserved c =
    let n = c.min-n.result in
    let old = c.args.old in
    let inv = c.loop-i.invariant in
    let i = c.loop-i.i in
    let t = get_or old i empty_turnout in
    let inside : i < 64 = omega arith in
    let more = c.with_lower_end-found.ensures in
    let f = below-it n old in
    let number =
    c.number_with.ensures
    ∙ number-found f i inside c.loop-i.below inv.2 c.loop-i.found inv.1 t in (
      one_more (lower n old i) inv.0 more,
      more
          ∙ ap (λ (x : ℕ). x + cond (lower n old i) 1 0) inv.1
          ∙ sym (count-more (lower n old) i),
      stored f i inside c.loop-i.below inv.2 c.loop-i.found inv.1,
      ap₂ (λ (l : List Turnout) (g : ℕ). set l i (with_number t g)) inv.3 number
          ∙ places-next (numbered n old) i empty_turnout inside,
    )

pub returns : goal.returns
unfolding pair_number renumbered
returns c =
    let st = turnouts_alone c.args.p 0 c.args.old in
    let whole : c.min-n.result ≡ turnout_count st = search rules in
    let all : c.loop-i.i ≡ turnout_count st = omega arith in
    c.loop-i.invariant.3
    ∙ ap₂ (λ (p m : ℕ). places (numbered p st.turnout) m empty_turnout) whole all
    ∙ places-limit (numbered (turnout_count st) st.turnout) st.turnouts empty_turnout
