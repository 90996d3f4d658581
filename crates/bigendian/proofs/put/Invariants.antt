-- The invariant is what the bytes still to be stored make of the buffer.
use Rattle.std.proofs.Common.{◌≡◌, ◌+◌, ◌-◌}
use Rattle.bigendian.specs.BigEndian.{stored_at}
use Rattle.bigendian.proofs.put.Given as goal

abbrev pub invariant-loop-i : goal.invariant-loop-i
invariant-loop-i g l =
    stored_at (g.N.Number.BYTES - l.i) l.s (l.at + l.i) l.wide ≡ stored_at g.N.Number.BYTES l.initial.s l.at l.wide
