-- The desks that ACCEPT-3 (docs/RULES.md) and requests turn down do not meet demand 3, shown on
-- station K.
use mathlib.Core.Bool.{true, false, and-eq-true_iff, true≢false}
use mathlib.Core.List.{List, [], ◌∷◌}
use mathlib.Core.Path.{◌≡◌, refl, sym, ap, ◌∙◌}
use Prim.Native.Nat.{ℕ}
use lib.ListN.{take}
use borrow.Author.Tests.{eqb-true}
use Rattle.sets.specs.Sets.{has, single}
use Rattle.sets.proofs.Membership.{has-single}
use Rattle.station.specs.declared.Station.{Station}
use Rattle.zone.specs.declared.Regime.TheVariants.{Clear}
use Rattle.zone.specs.Movement.{is_clear}
use Rattle.desk.specs.declared.Desk.{Desk}
use Rattle.desk.specs.Questions.{MovementAnswer, WorkAnswer}
use Rattle.history.specs.Since.{since, after_last, after_first, any, any_then_none}
use Rattle.history.specs.History.{under_agreed_work, open_to_work, standing, allows_clear}
use Rattle.history.specs.Lists.{Input, Model, message, after, accepted, of_zone, desk_after, zone_messages}
use Rattle.history.specs.Demand3.{ours, Demand3}
use Rattle.history.specs.CaseMessages.{keying}
use Rattle.history.specs.Cases.{asked, keyed2}
use Rattle.sheet.specs.Cases.{sheet_k}
use Rattle.worked_cases.specs.StationK.{station_k, records_k, cleared0, one_end_cleared}
use Rattle.worked_cases.specs.StationK.{one_end_heard, keyed_heard, next_asked, next_train, next_heard}
use Rattle.worked_cases.specs.OtherDesks.{answering_movements, keeping_nothing, stays_fresh}
use Rattle.worked_cases.specs.OtherDesks.{takes_for_both, keeps_no_keys, keys_outlive}
use Rattle.worked_cases.proofs.StationK.{station-k}

-- a movement on the fresh desk of station K
abbrev only_movement : List Input
only_movement = message (asked 0) ∷ []

-- it stands
stands : standing (asked 0 ∷ []) ≡ since (asked 0) []
unfolding standing after_last any
stands = refl

-- with no work anywhere each turnout of its route has what it needs
nothing-worked : (t : ℕ) → under_agreed_work t (asked 0 ∷ []) ≡ true → ⊥
unfolding under_agreed_work after_last
nothing-worked t under = true≢false (sym under)

-- so the signals must be clear: no desk that never answers clear meets demand 3
pub always-held-fails :
    (movement : Station → Desk → ℕ → ℕ → MovementAnswer)
    → ((st : Station) (d : Desk) (zone train : ℕ)
    → is_clear (movement st d zone train).regime ≡ false)
    → Demand3 (answering_movements movement) → ⊥
unfolding accepted
always-held-fails movement held demand =
    let heard = station-k.only-movement in
    let there = demand sheet_k station-k.sheet only_movement in
    let clear = (there.clear 0 (asked 0) [] (ap standing heard ∙ stands)).1
    (λ t named under. absurd (nothing-worked t (sym (ap (under_agreed_work t) heard) ∙ under))) in
    true≢false (sym (ap is_clear clear) ∙ held _ _ _ _)

-- turnout 0 is open to work after record 3, and before the first record it is not
pub keeps-nothing-fails : (answer : Station → ℕ → WorkAnswer) → Demand3 (keeping_nothing answer) → ⊥
unfolding accepted of_zone open_to_work under_agreed_work after_last after_first any any_then_none has
keeps-nothing-fails answer demand =
    let heard = zone_messages ours station_k (take 3 records_k) 0 in
    let now-open : open_to_work 0 heard ≡ true = ap (open_to_work 0) station-k.heard-3 in
    let later = ((demand sheet_k station-k.sheet (take 3 records_k)).work 0).1 (0, now-open) in
    let before = ((demand sheet_k station-k.sheet []).work 0).0 later in
    true≢false (sym before.1)

-- the movement is accepted and then forgotten
pub stays-fresh-fails : Demand3 stays_fresh → ⊥
unfolding accepted after
stays-fresh-fails demand =
    let heard = station-k.only-movement in
    let there = demand sheet_k station-k.sheet only_movement in
    let clear = (there.clear 0 (asked 0) [] (ap standing heard ∙ stands)).1
    (λ t named under. absurd (nothing-worked t (sym (ap (under_agreed_work t) heard) ∙ under))) in
    let answer = ap (λ (a : MovementAnswer). is_clear a.regime) station-k.fresh-movement in
    true≢false (sym (ap is_clear clear) ∙ answer)

-- the movement stands there, and turnout 0 is under agreed work
stands-there : standing one_end_cleared ≡ since (asked 0) (cleared0 1 0 ∷ [])
unfolding standing after_last any
stands-there = refl

worked-there : under_agreed_work 0 one_end_cleared ≡ true
unfolding under_agreed_work after_last after_first any has
worked-there = refl

-- whatever desk accepts a clearance of declaration 1 that covers one end of a crossover, and then
-- answers clear, does not meet demand 3
pub one-end-fails :
    (D : Model) → zone_messages D station_k one_end_heard 0 ≡ one_end_cleared
    → (D.movement station_k (desk_after D station_k one_end_heard) 0 512).regime ≡ Clear
    → Demand3 D → ⊥
one-end-fails D heard clear demand =
    let there = demand sheet_k station-k.sheet one_end_heard in
    let stands = ap standing heard ∙ stands-there in
    let each = (there.clear 0 (asked 0) (cleared0 1 0 ∷ []) stands).0 clear in
    let worked = ap (under_agreed_work 0) heard ∙ worked-there in
    true≢false (sym (each 0 station-k.of-route-0 worked) ∙ station-k.not-allowed)

-- such a desk
pub takes-for-both-fails : Demand3 takes_for_both → ⊥
takes-for-both-fails =
    one-end-fails takes_for_both station-k.taken-for-both station-k.clear-for-both

-- a movement with a key on turnout 2 stands, and turnout 2 alone is under agreed work
stands-keyed : standing keyed2 ≡ since (asked 0) (keying 120 512 2 1 ∷ [])
unfolding standing after_last any
stands-keyed = refl

worked-2 : (t : ℕ) → under_agreed_work t keyed2 ≡ true → t ≡ 2
unfolding under_agreed_work after_last after_first any single
worked-2 t under =
    eqb-true t 2 (sym (has-single 2 t) ∙ ((and-eq-true_iff (has 4 t) true).0 under).0)

key-allows : allows_clear station_k (asked 0) (keying 120 512 2 1 ∷ []) 2 ≡ true
unfolding any
key-allows = refl

-- whatever desk accepts that key, and does not answer clear, does not meet demand 3
pub key-without-clear-fails :
    (D : Model) → zone_messages D station_k keyed_heard 0 ≡ keyed2
    → is_clear (D.movement station_k (desk_after D station_k keyed_heard) 0 512).regime ≡ false
    → Demand3 D → ⊥
key-without-clear-fails D heard other demand =
    let there = demand sheet_k station-k.sheet keyed_heard in
    let stands = ap standing heard ∙ stands-keyed in
    let clear = (there.clear 0 (asked 0) (keying 120 512 2 1 ∷ []) stands).1
    (λ t named under. rw (worked-2 t (sym (ap (under_agreed_work t) heard) ∙ under)) key-allows) in
    true≢false (sym (ap is_clear clear) ∙ other)

-- such a desk
pub keeps-no-keys-fails : Demand3 keeps_no_keys → ⊥
keeps-no-keys-fails =
    key-without-clear-fails keeps_no_keys station-k.taken-unkept station-k.held-unkept

-- the next train stands, with nothing heard since, and turnout 2 is still under agreed work
stands-next : standing next_train ≡ since next_asked []
unfolding standing after_last any
stands-next = refl

worked-next : under_agreed_work 2 next_train ≡ true
unfolding under_agreed_work after_last after_first any has
worked-next = refl

not-allowed-next : allows_clear station_k next_asked [] 2 ≡ false
unfolding any
not-allowed-next = refl

-- whatever desk answers clear for it does not meet demand 3
pub outliving-key-fails :
    (D : Model) → zone_messages D station_k next_heard 0 ≡ next_train
    → (D.movement station_k (desk_after D station_k next_heard) 0 600).regime ≡ Clear
    → Demand3 D → ⊥
outliving-key-fails D heard clear demand =
    let there = demand sheet_k station-k.sheet next_heard in
    let stands = ap standing heard ∙ stands-next in
    let each = (there.clear 0 next_asked [] stands).0 clear in
    let worked = ap (under_agreed_work 2) heard ∙ worked-next in
    true≢false (sym (each 2 station-k.of-route-2 worked) ∙ not-allowed-next)

-- such a desk
pub keys-outlive-fails : Demand3 keys_outlive → ⊥
keys-outlive-fails =
    outliving-key-fails keys_outlive station-k.taken-outlived station-k.clear-outlived
