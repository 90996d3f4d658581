-- Answers of several values as one number: the code in its lowest byte, and the other values above
-- it.
use Rattle.std.specs.Prelude.{cond, ℕ, ◌+◌, ◌*◌}
use Rattle.zone.specs.Movement.{regime_number}
use Rattle.desk.specs.Questions.{MovementAnswer, WorkAnswer}

-- the answer to a record: the code, the minutes above it
abbrev pub answer_packed : ℕ → ℕ → ℕ
answer_packed code minutes = code + 256 * minutes

-- the movement question: the code, the regime, the lowest turnout, the count, a byte each
abbrev pub movement_packed : MovementAnswer → ℕ
movement_packed a =
    a.code + 256 * regime_number a.regime + 65536 * a.lowest + 16777216 * a.count

-- the work question: the code, and 256 more for yes
abbrev pub work_packed : WorkAnswer → ℕ
work_packed a = cond a.yes (a.code + 256) a.code
