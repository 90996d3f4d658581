use Rattle.std.proofs.Common.{◌≡◌, ℕ, List, Bool, true, false, sym, ap, ◌∙◌, rules}
use mathlib.Core.Bool.{not}
use mathlib.Core.Path.{ap₂}
use lib.ListN.{get_or}
use Rattle.std.proofs.lemmas.Iterator.{first_from_Range}
use Rattle.sets.specs.Range.{first_from}
use Rattle.station.specs.declared.Turnout.{Turnout}
use Rattle.station.specs.declared.Station.{Station}
use Rattle.station.specs.Station.{empty_turnout, turnouts_alone, turnout_count, zone_count}
use Rattle.group_records.specs.GroupRecords.{found_below}
use Rattle.group_records.proofs.Search.{searched}
use Rattle.partner_records.specs.PartnerRecords.{turnout_kept, good_turnout, bad_turnout}
use Rattle.partner_records.proofs.first_bad_turnout.Goals as goal

-- turnout n of the records ts is bad
abbrev bad : ℕ → ℕ → List Turnout → ℕ → Bool
bad p z ts n =
    not (turnout_kept p z n (get_or ts n empty_turnout)
    (get_or ts (get_or ts n empty_turnout).group empty_turnout))

-- the first bad turnout, by the numbers that the code has
found :
    (st : Station) (p z : ℕ) → p ≡ turnout_count st → z ≡ zone_count st →
    bad_turnout st ≡ first_from (bad p z st.turnout) 0 p
unfolding bad_turnout good_turnout
found st p z ep ez = rw (ep, ez)

pub returns : goal.returns
returns c =
    let st = turnouts_alone c.args.p c.args.z c.args.ts in
    let p = c.min-count.result in
    let z = c.min-zones.result in
    let n = c.min.result in
    let same : p ≡ n = search rules in
    let whole : p ≡ turnout_count st = search rules in
    let test = bad p z c.args.ts in
    searched test n c.find.result
    (first_from_Range _ _ _ c.find.result (λ k. test k ≡ true) (λ k. test k ≡ false) c.find.ensures.ran
    (λ k q h. search rules) (λ k q h. search rules))
    ∙ ap₂ found_below (ap (first_from test 0) (sym same) ∙ sym (found st p z whole (search rules))) (sym same ∙ whole)
