-- A list with only one zone's messages, of any desk: it is alike to the whole list in that zone, and
-- all its answers are those of the zone.
use mathlib.Core.Bool.{Bool, true, false}
use mathlib.Core.List.{List, [], ◌∷◌}
use mathlib.Core.Path.{◌≡◌, refl, ap, ◌∙◌}
use Prim.Native.Nat.{ℕ}
use Rattle.message.specs.declared.Message.{Message}
use Rattle.station.specs.declared.Station.{Station}
use Rattle.station.specs.Station.{zone_count}
use Rattle.sheet.specs.Sheet.{read_sheet}
use Rattle.history.specs.Lists.{Input, message_of, Reply, Model, answers}
use Rattle.history.specs.Separation.{belongs_to, belonging, Alike, zone_answers, SameForZone}
use Rattle.history.specs.Separation.{Separation, only_of, SameAlone, HeardAlone}

-- what is kept is the zone's messages
pub only-alike :
    (st : Station) (z : ℕ) (inputs : List Input) → Alike st z (only_of (zone_count st) z inputs) inputs
unfolding belonging only_of
only-alike st z [] = refl
only-alike st z (i ∷ inputs) = go (belongs_to (zone_count st) z i) refl (only-alike st z inputs)
  where
    go :
        (b : Bool) → belongs_to (zone_count st) z i ≡ b
        → Alike st z (only_of (zone_count st) z inputs) inputs
        → Alike st z (only_of (zone_count st) z (i ∷ inputs)) (i ∷ inputs)
    go true p later = rw (p, p) (ap (λ (l : List Message). message_of i ∷ l) later)
    go false p later = rw p later

module _ (D : Model) (st : Station) (z : ℕ) where
  -- every answer to what is kept is one of the zone
  only-answers :
      (inputs : List Input) (d : D.State)
      → answers D st d (only_of (zone_count st) z inputs)
      ≡ zone_answers D st z d (only_of (zone_count st) z inputs)
  unfolding answers zone_answers only_of
  only-answers [] d = refl
  only-answers (i ∷ inputs) d =
      go (belongs_to (zone_count st) z i) refl (λ (d : D.State). only-answers inputs d)
    where
      go :
          (b : Bool) → belongs_to (zone_count st) z i ≡ b
          → ((d : D.State) → answers D st d (only_of (zone_count st) z inputs)
          ≡ zone_answers D st z d (only_of (zone_count st) z inputs))
          → answers D st d (only_of (zone_count st) z (i ∷ inputs))
          ≡ zone_answers D st z d (only_of (zone_count st) z (i ∷ inputs))
      go true p later =
          rw (p, p)
          (ap (λ (l : List Reply). (D.hear st d i).reply ∷ l) (later (D.hear st d i).state))
      go false p later = rw p (later d)

  -- what two alike lists give a zone, said of a list and its part of that zone
  pub same-alone :
      (inputs : List Input) → SameForZone D st z (only_of (zone_count st) z inputs) inputs
      → SameAlone D st z inputs
  same-alone inputs same = record {
    answers = only-answers inputs D.fresh ∙ same.answers;
    questions = same.questions;
  }

-- every desk that keeps M-106 keeps it in this form
pub heard-alone : (D : Model) → Separation D → HeardAlone D
heard-alone D separation sheet good z inputs =
    let st = (read_sheet sheet).station in
    same-alone D st z inputs
    (separation sheet good z (only_of (zone_count st) z inputs) inputs (only-alike st z inputs))
