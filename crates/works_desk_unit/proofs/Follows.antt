-- A desk that hears as another does, through a map of its states: over a list it gives the same
-- answers, accepts the same messages and ends in the state that the map gives.
use mathlib.Core.Bool.{Bool, true, false, cond}
use mathlib.Core.List.{List, [], ◌∷◌}
use mathlib.Core.Path.{◌≡◌, refl, ap, ◌∙◌}
use lib.Dec.{eqb}
use Rattle.message.specs.declared.Message.{Message}
use Rattle.station.specs.declared.Station.{Station}
use Rattle.works_desk_unit.specs.OneByOne.{Each}
use Rattle.history.specs.Lists.{Input, message_of, Reply, Heard, Model, is_accepted, after, answers}
use Rattle.history.specs.Lists.{accepted, kept, kept_answers}

-- the desk D follows the desk E on inputs that pass, from states that pass
pub record Follows (D E : Model) (st : Station) (Q : Input → Type 0) : Type 1 where
  pub shown : E.State → D.State
  pub Good : E.State → Type 0
  pub step :
      (e : E.State) → Good e → (i : Input) → Q i
      → D.hear st (shown e) i
      ≡ record { reply = (E.hear st e i).reply; state = shown (E.hear st e i).state }
  pub stays : (e : E.State) → Good e → (i : Input) → Q i → Good (E.hear st e i).state

module _ {D E : Model} {st : Station} {Q : Input → Type 0} (F : Follows D E st Q) where
  pub good-after :
      (e : E.State) → F.Good e → (inputs : List Input) → Each Q inputs →
      F.Good (after E st e inputs)
  unfolding after
  good-after e good [] pass = good
  good-after e good (i ∷ inputs) pass =
      good-after (E.hear st e i).state (F.stays e good i pass.0) inputs pass.1

  pub after_same :
      (e : E.State) → F.Good e → (inputs : List Input) → Each Q inputs →
      after D st (F.shown e) inputs ≡ F.shown (after E st e inputs)
  unfolding after
  after_same e good [] pass = refl
  after_same e good (i ∷ inputs) pass =
      ap (λ (h : Heard D.State). after D st h.state inputs) (F.step e good i pass.0)
      ∙ after_same (E.hear st e i).state (F.stays e good i pass.0) inputs pass.1

  pub answers-same :
      (e : E.State) → F.Good e → (inputs : List Input) → Each Q inputs →
      answers D st (F.shown e) inputs ≡ answers E st e inputs
  unfolding answers
  answers-same e good [] pass = refl
  answers-same e good (i ∷ inputs) pass =
      ap (λ (h : Heard D.State). h.reply ∷ answers D st h.state inputs)
      (F.step e good i pass.0)
      ∙ ap (λ (l : List Reply). (E.hear st e i).reply ∷ l)
      (answers-same (E.hear st e i).state (F.stays e good i pass.0) inputs pass.1)

  pub accepted-same :
      (e : E.State) → F.Good e → (inputs : List Input) → Each Q inputs →
      accepted D st (F.shown e) inputs ≡ accepted E st e inputs
  unfolding accepted
  accepted-same e good [] pass = refl
  accepted-same e good (i ∷ inputs) pass =
      ap (λ (h : Heard D.State).
      let later = accepted D st h.state inputs in
      cond (eqb h.reply.code 0) (message_of i ∷ later) later)
      (F.step e good i pass.0)
      ∙ ap (λ (l : List Message). cond (is_accepted E st e i) (message_of i ∷ l) l)
      (accepted-same (E.hear st e i).state (F.stays e good i pass.0) inputs pass.1)

  pub kept_same :
      (e : E.State) → F.Good e → (inputs : List Input) → Each Q inputs →
      kept D st (F.shown e) inputs ≡ kept E st e inputs
  unfolding kept
  kept_same e good [] pass = refl
  kept_same e good (i ∷ inputs) pass =
      ap (λ (h : Heard D.State).
      let later = kept D st h.state inputs in
      cond (eqb h.reply.code 0) (i ∷ later) later)
      (F.step e good i pass.0)
      ∙ ap (λ (l : List Input). cond (is_accepted E st e i) (i ∷ l) l)
      (kept_same (E.hear st e i).state (F.stays e good i pass.0) inputs pass.1)

  pub kept-answers-same :
      (e : E.State) → F.Good e → (inputs : List Input) → Each Q inputs →
      kept_answers D st (F.shown e) inputs ≡ kept_answers E st e inputs
  unfolding kept_answers
  kept-answers-same e good [] pass = refl
  kept-answers-same e good (i ∷ inputs) pass =
      ap (λ (h : Heard D.State).
      let later = kept_answers D st h.state inputs in
      cond (eqb h.reply.code 0) (h.reply ∷ later) later)
      (F.step e good i pass.0)
      ∙ ap (λ (l : List Reply). cond (is_accepted E st e i) ((E.hear st e i).reply ∷ l) l)
      (kept-answers-same (E.hear st e i).state (F.stays e good i pass.0) inputs pass.1)

-- the inputs that are kept pass where all do
pub kept-pass :
    (E : Model) (st : Station) (Q : Input → Type 0) (e : E.State) (inputs : List Input) →
    Each Q inputs → Each Q (kept E st e inputs)
unfolding kept
kept-pass E st Q e [] pass = pass
kept-pass E st Q e (i ∷ inputs) pass =
    go (is_accepted E st e i) (kept-pass E st Q (E.hear st e i).state inputs pass.1)
  where
    go : (b : Bool) → Each Q (kept E st (E.hear st e i).state inputs)
        → Each Q (cond b
        (i ∷ kept E st (E.hear st e i).state inputs)
        (kept E st (E.hear st e i).state inputs))
    go true rest = (pass.0, rest)
    go false rest = rest
