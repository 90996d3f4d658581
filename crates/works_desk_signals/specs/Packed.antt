-- A verdict as one number: the code, and the verdict above it.
use Rattle.std.specs.Prelude.{ℕ}
use Rattle.packing.specs.Bytes.{two_packed}
use Rattle.signals.specs.Answer.{Answer}

abbrev pub verdict_packed : Answer → ℕ
verdict_packed a = two_packed a.code a.verdict
