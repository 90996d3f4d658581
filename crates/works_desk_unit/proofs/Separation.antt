-- M-106 of the unit. It is that of the desk, which the unit follows.
use mathlib.Core.Bool.{Bool, true, false, cond}
use mathlib.Core.List.{List, [], ◌∷◌}
use mathlib.Core.Path.{◌≡◌, refl, sym, ap, ◌∙◌}
use Prim.Native.Nat.{ℕ}
use Rattle.station.specs.declared.Station.{Station}
use Rattle.station.specs.Station.{zone_count}
use Rattle.sheet.specs.Sheet.{read_sheet}
use Rattle.desk.specs.Desk.{fresh_desk}
use Rattle.desk_bytes.specs.Encoding.{desk_bytes}
use Rattle.history.specs.Lists.{Input, Reply, Heard, Model, after}
use Rattle.history.specs.Demand3.{ours}
use Rattle.history.specs.Separation.{belongs_to, zone_answers, only_of}
use Rattle.history.proofs.Alone.{only-alike, same-alone}
use Rattle.history.proofs.Separation.{separation}
use Rattle.works_desk_unit.specs.OneByOne.{unit_of, Each, IsRecord}
use Rattle.works_desk_unit.specs.Separation.{UnitSeparation, UnitHeardAlone}
use Rattle.works_desk_unit.proofs.Typed.{fresh-typed}
use Rattle.works_desk_unit.proofs.Follows.{Follows, good-after, after_same}
use Rattle.works_desk_unit.proofs.OneByOne.{follows, movement-asked, work-asked}

-- a desk that follows another gives a zone the same answers
zone-answers-same :
    {D E : Model} {st : Station} {Q : Input → Type 0} (F : Follows D E st Q) (z : ℕ)
    (e : E.State) → F.Good e → (inputs : List Input) → Each Q inputs
    → zone_answers D st z (F.shown e) inputs ≡ zone_answers E st z e inputs
unfolding zone_answers
zone-answers-same F z e good [] pass = refl
zone-answers-same {D} {E} {st} {Q} F z e good (i ∷ inputs) pass =
    ap (λ (h : Heard D.State).
    let later = zone_answers D st z h.state inputs in
    cond (belongs_to (zone_count st) z i) (h.reply ∷ later) later)
    (F.step e good i pass.0)
    ∙ ap (λ (l : List Reply).
    cond (belongs_to (zone_count st) z i) ((E.hear st e i).reply ∷ l) l)
    (zone-answers-same F z (E.hear st e i).state (F.stays e good i pass.0) inputs pass.1)

pub unit-separation : UnitSeparation
unfolding follows
unit-separation sheet good z one other one-pass other-pass alike =
    let st = (read_sheet sheet).station in
    let F = follows sheet good in
    let held = separation sheet good z one other alike in
    let d = after ours st fresh_desk one in
    let e = after ours st fresh_desk other in
    let d-fits = good-after F fresh_desk fresh-typed one one-pass in
    let e-fits = good-after F fresh_desk fresh-typed other other-pass in
    let last_one : after (unit_of sheet) st (unit_of sheet).fresh one ≡ desk_bytes d =
    after_same F fresh_desk fresh-typed one one-pass in
    let last-other : after (unit_of sheet) st (unit_of sheet).fresh other ≡ desk_bytes e =
    after_same F fresh_desk fresh-typed other other-pass in
    record {
      answers =
          zone-answers-same F z fresh_desk fresh-typed one one-pass
          ∙ held.answers
          ∙ sym (zone-answers-same F z fresh_desk fresh-typed other other-pass);
      questions = rw (last_one, last-other) (record {
        movement = λ train.
            movement-asked sheet good d d-fits z train
            ∙ held.questions.movement train
            ∙ sym (movement-asked sheet good e e-fits z train);
        work = λ t its.
            work-asked sheet good d d-fits t
            ∙ held.questions.work t its
            ∙ sym (work-asked sheet good e e-fits t);
      });
    }

-- the inputs of a zone pass where all do
only-pass :
    (Q : Input → Type 0) (Z z : ℕ) (inputs : List Input) → Each Q inputs → Each Q (only_of Z z inputs)
unfolding only_of
only-pass Q Z z [] pass = pass
only-pass Q Z z (i ∷ inputs) pass = go (belongs_to Z z i) (only-pass Q Z z inputs pass.1)
  where
    go :
        (b : Bool) → Each Q (only_of Z z inputs)
        → Each Q (cond b (i ∷ only_of Z z inputs) (only_of Z z inputs))
    go true rest = (pass.0, rest)
    go false rest = rest

pub unit-heard-alone : UnitHeardAlone
unit-heard-alone sheet good z inputs pass =
    let st = (read_sheet sheet).station in
    let only = only_of (zone_count st) z inputs in
    let only-records = only-pass IsRecord (zone_count st) z inputs pass in
    same-alone (unit_of sheet) st z inputs
    (unit-separation sheet good z only inputs only-records pass (only-alike st z inputs))
