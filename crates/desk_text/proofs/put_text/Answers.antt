use Rattle.std.proofs.Common.{ap}
use Rattle.message.specs.Record.{WriteAnswer}
use Rattle.journal.specs.Journal.{counted}
use Rattle.report.specs.Text.{Filled, text_of, put_all}
use Rattle.desk_text.specs.Printed.{room, printed}
use Rattle.desk_text.proofs.put_text.Goals as goal

pub returns : goal.returns
unfolding room printed
returns c =
    let a = c.args in
    let text-of : WriteAnswer → Filled =
    λ x. put_all a.out.now 0 (text_of x.code x.bytes (counted a.journal.now)) in
    rw (
      c.text.ensures,
      c.count.ensures,
      c.code.ensures,
    ) (ap text-of c.replay-replayed.ensures.answer)
