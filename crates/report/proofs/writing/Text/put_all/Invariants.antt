-- The invariant says that the bytes still to be put give the whole.
use Rattle.std.proofs.Common.{◌≡◌, drop}
use Rattle.report.specs.Text.{put_all}
use Rattle.report.proofs.writing.Text.put_all.Given as goal

abbrev pub invariant-loop-b : goal.invariant-loop-b
invariant-loop-b l =
    (l.self.out.ghost_name ≡ l.fn.self.out.ghost_name)
    × (put_all l.fn.self.out.now l.fn.self.at l.bytes
    ≡ put_all l.self.out.now l.self.at (drop l.b-index l.bytes))
