use Rattle.std.proofs.Common.{◌≡◌, ℕ, ◌-◌, sym, ap, ◌∙◌, arith, rules, eq-eqb, ne_eqb}
use Rattle.report.specs.Text.{lines_from, text_of, put_all}
use Rattle.report.proofs.Filling.{put-after, byte_last, lines_next, lines_end}
use Rattle.report.proofs.writing.Text.put_text.Goals as goal

pub returns-then-code-ne0-clause-put : goal.returns-then-code-ne0-clause-put
unfolding text_of
returns-then-code-ne0-clause-put c =
    rw (ne_eqb c.args.code 0 c.if-code-ne0.true)
    (byte_last _ _ _ _ c.put_decimal.ensures.put c.put_byte.ensures.put)

pub loop-i-preserved : goal.loop-i-preserved
loop-i-preserved c =
    let l = c.loop-i in
    let line = rw (c.get-in-loop-i.ensures, c.get.ensures) at c.put_line.ensures.put in (
      c.put_line.ensures.same_buffer ∙ l.invariant.0,
      l.invariant.1
          ∙ ap (put_all l.self.out.now l.self.at) (lines_next c.args.answers.now l.i c.args.count c.loop-i-test.true)
          ∙ put-after _ _ _ _ line,
    )

pub returns-clause-put : goal.returns-clause-put
unfolding text_of put_all
returns-clause-put c =
    let a = c.args in
    let s = a.answers.now in
    let l = c.loop-i in
    let ended : l.i ≡ a.count = omega arith in
    let rest =
    ap (λ (k : ℕ). put_all l.self.out.now l.self.at (lines_from s k (a.count - k))) ended
    ∙ ap (put_all l.self.out.now l.self.at) (lines_end s a.count) in
    rw (eq-eqb a.code 0 (search rules)) (sym (l.invariant.1 ∙ rest))
