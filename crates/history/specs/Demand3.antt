-- Demand 3, HIST-9 to HIST-12 (docs/RULES.md), as one statement over any desk: what holds after
-- every list of hearings from its fresh state, on the station of every sheet that is accepted.
use Rattle.std.specs.Prelude.{true, ◌↔◌, List, ◌≡◌, ℕ}
use Rattle.message.specs.declared.Message.{Message}
use Rattle.station.specs.declared.Station.{Station}
use Rattle.sheet.specs.Sheet.{read_sheet}
use Rattle.zone.specs.declared.Regime.TheVariants.{Clear}
use Rattle.desk.specs.declared.Desk.{Desk}
use Rattle.desk.specs.Desk.{Applied, fresh_desk, applied, applied_record}
use Rattle.desk.specs.Questions.{MovementAnswer, WorkAnswer, movement_answered, work_answered}
use Rattle.history.specs.Since.{since}
use Rattle.history.specs.History.{open_to_work, standing, cleared, EachWorkedAllowsClear}
use Rattle.history.specs.Lists.{Input, message, bytes, Heard, Model, answers, kept}
use Rattle.history.specs.Lists.{kept_answers, desk_after, zone_messages}

-- the desk of the contracts: its definitions are those that the calls' `ensures` cite
abbrev pub heard_by : Applied → Heard Desk
heard_by a = record { reply = record { code = a.code; minutes = a.minutes }; state = a.desk }

abbrev pub hears : Station → Desk → Input → Heard Desk
hears st d (message m) = heard_by (applied st d m)
hears st d (bytes s) = heard_by (applied_record st d s)

-- a desk that keeps what ours keeps, by how it hears and how it answers the two questions
abbrev pub on_desks :
    (Station → Desk → Input → Heard Desk) → (Station → Desk → ℕ → ℕ → MovementAnswer)
    → (Station → Desk → ℕ → WorkAnswer) → Model
on_desks hear movement work = record {
  State = Desk;
  fresh = fresh_desk;
  hear = hear;
  movement = movement;
  work = work;
}

abbrev pub ours : Model
ours = on_desks hears movement_answered work_answered

-- what holds after a list, for a desk on a station
pub record Holds (D : Model) (st : Station) (inputs : List Input) : Type 0 where
  -- HIST-9: "No turnout is both open to work and cleared for a train"; M-105: "and no turnout is
  -- cleared and open to work together"
  pub apart :
      (t z z' : ℕ) → open_to_work t (zone_messages D st inputs z) ≡ true
      → cleared t (zone_messages D st inputs z') ≡ true
      → ⊥
  -- HIST-10: "Asked about any turnout, the desk says yes exactly when that turnout is open to
  -- work."
  pub work :
      (t : ℕ) → ((D.work st (desk_after D st inputs) t).yes ≡ true)
      ↔ ((z : ℕ) × (open_to_work t (zone_messages D st inputs z) ≡ true))
  -- HIST-11: "A standing movement is answered 'signals clear' exactly when each turnout of its
  -- route under agreed work has .. all efficient", or, by M-105, its key
  pub clear :
      (z : ℕ) (f : Message) (rest : List Message)
      → standing (zone_messages D st inputs z) ≡ since f rest
      → ((D.movement st (desk_after D st inputs) z f.id).regime ≡ Clear)
      ↔ EachWorkedAllowsClear st (zone_messages D st inputs z) f rest
  -- HIST-12: "Striking the refused messages from the list gives the same desk, and the messages
  -- kept get the same answers as before."
  pub same-desk : desk_after D st (kept D st D.fresh inputs) ≡ desk_after D st inputs
  pub same-answers :
      answers D st D.fresh (kept D st D.fresh inputs)
      ≡ kept_answers D st D.fresh inputs

-- DEMAND-3 of a desk: "For every station sheet accepted and every list of messages heard from its
-- fresh desk"
abbrev pub Demand3 : Model → Type 0
Demand3 D =
    (sheet : List ℕ) → (read_sheet sheet).code ≡ 0 → (inputs : List Input)
    → Holds D (read_sheet sheet).station inputs
