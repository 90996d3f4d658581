-- APART-1 to APART-3 (docs/RULES.md; M-106, 'A zone hears its own messages only'), as one statement
-- that can be made of any desk: "Two lists from a fresh desk on one station that an accepted sheet
-- gave, alike in the messages of one zone and their order and differing in the others at will, give
-- that zone the same codes, minutes and question answers. Records refused with 10, 11, 12 or 13
-- belong to no zone."
use Rattle.std.specs.Prelude.{Bool, true, cond, ◌&&◌, List, [], ◌∷◌, ◌≡◌, ℕ, eqb, ltb}
use Rattle.sets.specs.Sets.{has}
use Rattle.message.specs.declared.Message.{Message}
use Rattle.message.specs.Fields.{field_number}
use Rattle.message.specs.Record.{read_record}
use Rattle.station.specs.declared.Station.{Station}
use Rattle.station.specs.Station.{zone_count, zone_turnouts}
use Rattle.sheet.specs.Sheet.{read_sheet}
use Rattle.history.specs.Lists.{Input, message, bytes, message_of, Reply, Model, answers}
use Rattle.history.specs.Lists.{desk_after}

-- the code that refuses an input before its zone is looked at: 10, 11 or 13; 0 where it reads
abbrev pub unread_by : Input → ℕ
unread_by (message m) = field_number m
unread_by (bytes s) = (read_record s).code

-- APART-1: whether an input is a message of zone z where there are Z zones: it reads, and its zone
-- is below Z (else 12) and is z. Whether a desk accepts it does not matter
abbrev pub belongs_to : ℕ → ℕ → Input → Bool
belongs_to Z z i = eqb (unread_by i) 0 && (ltb (message_of i).zone Z && eqb (message_of i).zone z)

-- APART-1: "the messages of one zone and their order", accepted or refused; a record counts as its
-- message
unfoldable pub belonging : ℕ → ℕ → List Input → List Message
belonging Z z [] = []
belonging Z z (i ∷ inputs) =
    let rest = belonging Z z inputs in
    cond (belongs_to Z z i) (message_of i ∷ rest) rest

-- APART-2: two lists "alike in the messages of one zone and their order and differing in the others
-- at will"
abbrev pub Alike : Station → ℕ → List Input → List Input → Type 0
Alike st z one other = belonging (zone_count st) z one ≡ belonging (zone_count st) z other

-- the answers that the messages of zone z get in a list, in order
unfoldable pub zone_answers : (D : Model) → Station → ℕ → D.State → List Input → List Reply
zone_answers D st z d [] = []
zone_answers D st z d (i ∷ inputs) =
    let rest = zone_answers D st z (D.hear st d i).state inputs in
    cond (belongs_to (zone_count st) z i) ((D.hear st d i).reply ∷ rest) rest

-- APART-2: two states that answer every question of zone z alike: of any train, and of each turnout
-- that the sheet puts into it
pub record SameQuestions (D : Model) (st : Station) (z : ℕ) (d e : D.State) : Type 0 where
  pub movement : (train : ℕ) → D.movement st d z train ≡ D.movement st e z train
  pub work : (t : ℕ) → has (zone_turnouts st z) t ≡ true → D.work st d t ≡ D.work st e t

-- APART-2: "give that zone the same codes, minutes and question answers"
pub record SameForZone (D : Model) (st : Station) (z : ℕ) (one other : List Input) : Type 0 where
  pub answers : zone_answers D st z D.fresh one ≡ zone_answers D st z D.fresh other
  pub questions : SameQuestions D st z (desk_after D st one) (desk_after D st other)

-- APART-2 of a desk. Where z is no zone of the station all lists are alike, and the movement
-- question is refused by 12
abbrev pub Separation : Model → Type 0
Separation D =
    (sheet : List ℕ) → (read_sheet sheet).code ≡ 0 → (z : ℕ) (one other : List Input)
    → Alike (read_sheet sheet).station z one other
    → SameForZone D (read_sheet sheet).station z one other

-- APART-3, what follows for use: hearing only one zone's messages gives that zone the same answers.

-- the inputs of a list that are messages of zone z
unfoldable pub only_of : ℕ → ℕ → List Input → List Input
only_of Z z [] = []
only_of Z z (i ∷ inputs) =
    let rest = only_of Z z inputs in
    cond (belongs_to Z z i) (i ∷ rest) rest

-- APART-3: heard alone they get, all of them, the answers that they get in the whole list, and the
-- questions of the zone are answered as after the whole list
pub record SameAlone (D : Model) (st : Station) (z : ℕ) (inputs : List Input) : Type 0 where
  pub answers :
      answers D st D.fresh (only_of (zone_count st) z inputs)
      ≡ zone_answers D st z D.fresh inputs
  pub questions :
      SameQuestions D st z
      (desk_after D st (only_of (zone_count st) z inputs)) (desk_after D st inputs)

-- APART-3 of a desk, on every sheet that is accepted
abbrev pub HeardAlone : Model → Type 0
HeardAlone D =
    (sheet : List ℕ) → (read_sheet sheet).code ≡ 0 → (z : ℕ) (inputs : List Input)
    → SameAlone D (read_sheet sheet).station z inputs
