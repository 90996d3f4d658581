-- Code and verdict come back where both are below 256.
use Prim.Native.Nat.{◌<◌}
use Rattle.packing.proofs.Bytes.{two_bytes}
use Rattle.signals.specs.Answer.{Answer}
use Rattle.works_desk_signals.specs.Unpacked.{VerdictBytes}

pub verdict-bytes : (a : Answer) → a.code < 256 → a.verdict < 256 → VerdictBytes a
verdict-bytes a Code-fits verdict-fits =
    let both = two_bytes a.code a.verdict Code-fits verdict-fits in
    record { code-byte = both.low_byte; verdict-byte = both.next-byte }
