-- The invariant says that the lines still to be put give the whole text.
use Rattle.std.proofs.Common.{◌≡◌, ◌-◌}
use Rattle.report.specs.Text.{lines_from, put_all}
use Rattle.report.proofs.writing.Text.put_text.Given as goal

abbrev pub invariant-loop-i : goal.invariant-loop-i
invariant-loop-i l =
    (l.self.out.ghost_name ≡ l.fn.self.out.ghost_name)
    × (put_all l.fn.self.out.now l.fn.self.at (lines_from l.answers 0 l.count)
    ≡ put_all l.self.out.now l.self.at (lines_from l.answers l.i (l.count - l.i)))
