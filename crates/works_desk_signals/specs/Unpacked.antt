-- A packed verdict taken apart: byte 0 is the code, byte 1 the verdict.
use Rattle.std.specs.Prelude.{◌≡◌}
use Rattle.packing.specs.Bytes.{byte_of}
use Rattle.signals.specs.Answer.{Answer}
use Rattle.works_desk_signals.specs.Packed.{verdict_packed}

pub record VerdictBytes (a : Answer) : Type 0 where
  pub code-byte : byte_of 0 (verdict_packed a) ≡ a.code
  pub verdict-byte : byte_of 1 (verdict_packed a) ≡ a.verdict
