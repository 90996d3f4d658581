-- The invariant is the number in the bytes passed so far, which is one of as many bytes.
use Rattle.std.proofs.Common.{◌≡◌, ◌^◌, ◌<◌}
use Rattle.bigendian.specs.BigEndian.{number_at}
use Rattle.bigendian.proofs.get.Given as goal

abbrev pub invariant-loop-i : goal.invariant-loop-i
invariant-loop-i g l = (l.n ≡ number_at l.i l.s l.at) × (l.n < 256 ^ l.i)
