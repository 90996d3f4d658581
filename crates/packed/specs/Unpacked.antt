-- Packed answers taken apart: where each value stands in the number.
use Rattle.std.specs.Prelude.{cond, ◌≡◌, ℕ}
use Rattle.packing.specs.Bytes.{above, byte_of}
use Rattle.zone.specs.Movement.{regime_number}
use Rattle.desk.specs.Questions.{MovementAnswer, WorkAnswer}
use Rattle.packed.specs.Packed.{answer_packed, movement_packed, work_packed}

-- the answer to a record: byte 0 is the code, what stands above it the minutes
pub record AnswerBytes (code minutes : ℕ) : Type 0 where
  pub code-byte : byte_of 0 (answer_packed code minutes) ≡ code
  pub minutes-above : above 1 (answer_packed code minutes) ≡ minutes

-- the movement question: byte 0 is the code, byte 1 the regime, byte 2 the lowest turnout, byte 3
-- the count
pub record MovementBytes (a : MovementAnswer) : Type 0 where
  pub code-byte : byte_of 0 (movement_packed a) ≡ a.code
  pub regime-byte : byte_of 1 (movement_packed a) ≡ regime_number a.regime
  pub lowest-byte : byte_of 2 (movement_packed a) ≡ a.lowest
  pub count-byte : byte_of 3 (movement_packed a) ≡ a.count

-- the work question: byte 0 is the code, byte 1 is 1 for yes and 0 for no
pub record WorkBytes (a : WorkAnswer) : Type 0 where
  pub code-byte : byte_of 0 (work_packed a) ≡ a.code
  pub yes-byte : byte_of 1 (work_packed a) ≡ cond a.yes 1 0
