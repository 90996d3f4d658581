-- The invariant says that storing what is left gives the whole.
use Rattle.std.proofs.Common.{◌≡◌, ◌+◌, ◌*◌, ◌-◌}
use Rattle.std.proofs.lemmas.List.Edits.{sets}
use Rattle.desk_bytes.specs.Encoding.{zones_from}
use Rattle.desk_bytes.proofs.storing.put_zones.Given as goal

abbrev pub invariant-loop-k : goal.invariant-loop-k
invariant-loop-k l =
    sets l.s (8 + 64 * l.k) (zones_from l.fn.d l.k (8 - l.k)) ≡ sets l.fn.s 8 (zones_from l.fn.d 0 8)
