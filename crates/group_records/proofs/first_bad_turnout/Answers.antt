use Rattle.std.proofs.Common.{◌≡◌, ℕ, ◌<◌, ◌≤◌, List, Bool, true, false, sym, ap, ◌∙◌, rules, arith}
use mathlib.Core.Bool.{not}
use mathlib.Core.Path.{ap₂}
use lib.ListN.{get_or}
use Rattle.std.proofs.lemmas.Iterator.{first_from_Range}
use Rattle.sets.specs.Range.{first_from}
use Rattle.sets.specs.Table.{places}
use Rattle.sets.proofs.Finding.{first-same}
use Rattle.sets.proofs.Tables.{places-below}
use Rattle.station.specs.declared.Turnout.{Turnout}
use Rattle.station.specs.declared.Station.{Station}
use Rattle.station.specs.Station.{empty_turnout, turnouts_alone, turnout_at, turnout_count, zone_count}
use Rattle.groups.specs.Groups.{tied, tied_among}
use Rattle.group_records.specs.GroupRecords.{alike, turnout_kept, by_zone_drive, good_turnout, bad_turnout, found_below}
use Rattle.group_records.proofs.Likes.{same-likes, asked_of}
use Rattle.group_records.proofs.Search.{searched}
use Rattle.group_records.proofs.first_bad_turnout.Goals as goal

-- turnout k of the records ts is bad, by the tables of what is tied to it and like it
abbrev bad : ℕ → List Turnout → List ℕ → List ℕ → ℕ → Bool
bad z ts ties likes k = not (turnout_kept z (get_or ts k empty_turnout) (get_or ties k 0) (get_or likes k 0))

-- the rule, by the numbers and the tables that the code has
found :
    (st : Station) (p z : ℕ) (kinds : List Turnout) (ties likes : List ℕ)
    → p ≡ turnout_count st → z ≡ zone_count st → kinds ≡ by_zone_drive st.turnouts st.turnout
    → ties ≡ places (tied_among st.turnouts st.turnout) st.turnouts 0
    → likes ≡ places (tied_among st.turnouts kinds) st.turnouts 0
    → bad_turnout st ≡ first_from (bad z st.turnout ties likes) 0 p
unfolding bad_turnout good_turnout
found st p z kinds ties likes ep ez ek et el =
    ap (first_from (λ n. not (good_turnout st n)) 0) (sym ep)
    ∙ first-same (λ n. not (good_turnout st n)) (bad z st.turnout ties likes) 0 p
    (λ k l. ap not (each k (omega (arith, l, ep))))
  where
    n : ℕ
    n = st.turnouts

    each :
        (k : ℕ) → k < turnout_count st
        → good_turnout st k ≡ turnout_kept z (turnout_at st k) (get_or ties k 0) (get_or likes k 0)
    each k l =
        let t = turnout_at st k in
        let group =
        ap (λ (x : List ℕ). get_or x k 0) et ∙ places-below (tied_among n st.turnout) n 0 k l in
        let like =
        ap (λ (x : List ℕ). get_or x k 0) el
        ∙ places-below (tied_among n kinds) n 0 k l
        ∙ ap (λ (x : List Turnout). tied_among n x k) ek in
        let limit : z ≤ 8 = omega (arith, ez) in
        let asked =
        asked_of z t (tied st k) (alike n st.turnout t) (get_or likes k 0) limit
        (λ zone drive. sym (like ∙ same-likes n st.turnout k l zone drive)) in
        ap (λ (x : ℕ). turnout_kept x t (tied st k) (alike n st.turnout t)) (sym ez)
        ∙ asked
        ∙ ap (λ (g : ℕ). turnout_kept z t g (get_or likes k 0)) (sym group)

pub returns : goal.returns
returns c =
    let st = turnouts_alone c.args.p c.args.z c.args.ts in
    let n = c.min.result in
    let test = bad c.min-zones.result c.args.ts c.ties-tied.result c.ties-alike.result in
    let first =
    found st n c.min-zones.result c.by_zone_drive.result c.ties-tied.result c.ties-alike.result
    (search rules) (search rules) c.by_zone_drive.ensures c.ties-tied.ensures c.ties-alike.ensures in
    let whole : n ≡ turnout_count st = search rules in
    searched test n c.find.result
    (first_from_Range _ _ _ c.find.result (λ k. test k ≡ true) (λ k. test k ≡ false) c.find.ensures.ran
    (λ k q h. search rules) (λ k q h. search rules))
    ∙ ap₂ found_below (sym first) whole
