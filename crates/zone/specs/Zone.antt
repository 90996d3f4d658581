-- The state of a zone as a whole, and its answer to a message. ZONE-1 (docs/RULES.md): "Each zone
-- holds its work (none, asked or agreed), one movement, its recorder, its last accepted time." The
-- rules read its work and its movements by observers alone; its encoding in bytes reads the fields.
use Rattle.std.specs.Prelude.{Bool, true, false, cond, ℕ, eqb, None, Result, Ok, Err}
use Rattle.refusals.specs.declared.Refusal.{Refusal}
use Rattle.refusals.specs.Numbers.{number_of}
use Rattle.zone.specs.declared.Work.{Work}
use Rattle.zone.specs.declared.Work.TheVariants.{NoWork}
use Rattle.zone.specs.declared.Zone.{Zone}
use Rattle.zone.specs.declared.Heard.{Heard}

-- the answer to a message: its code, the minutes, and the zone after it
pub record Answer : Type 0 where
  pub code : ℕ
  pub minutes : ℕ
  pub zone : Zone

-- ZONE-2: "A fresh desk has no work and no movement in any zone, recorders working, times 0."
abbrev pub fresh_zone : Zone
fresh_zone = record { work = NoWork; movement = None; recorder = true; time = 0 }

-- what stands past the last zone of a desk
abbrev pub no_zone : Zone
no_zone = record { work = NoWork; movement = None; recorder = false; time = 0 }

-- the zone's work
abbrev pub work_of : Zone → Work
work_of z = z.work

-- the zone with other work, another recorder and another time; its movements stay
abbrev pub next_zone : Zone → Work → Bool → ℕ → Zone
next_zone z w working time =
    record { work = w; movement = z.movement; recorder = working; time = time }

-- the zone with other work, at a time
abbrev pub with_work : Zone → Work → ℕ → Zone
with_work z w time = next_zone z w z.recorder time

-- the zone at a time
abbrev pub at_time : Zone → ℕ → Zone
at_time z time = next_zone z z.work z.recorder time

-- the zone with its recorder working or out, at a time
abbrev pub with_recorder : Zone → Bool → ℕ → Zone
with_recorder z working time = next_zone z z.work working time

-- a refusal, CALL-3, HEAR-4: "nothing altered"
abbrev pub refused_in : Zone → ℕ → Answer
refused_in z number = record { code = number; minutes = 0; zone = z }

-- HEAR-4, MINUTES-2: the answer of a code: 0 gives the next zone and its minutes, any other the
-- zone as it was and 0 minutes
abbrev pub settled : Zone → ℕ → ℕ → Zone → Answer
settled z number minutes next =
    cond (eqb number 0) (record { code = 0; minutes = minutes; zone = next }) (refused_in z number)

-- the answer that a zone's result stands for: 0, the minutes and the zone after it, or a refusal
abbrev pub answer_of : Zone → Result Heard Refusal → Answer
answer_of z (Ok h) = record { code = 0; minutes = h.minutes; zone = h.zone }
answer_of z (Err e) = refused_in z (number_of e)
