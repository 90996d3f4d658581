-- The table of verdicts holds the rule: one test over the whole table, one law at each place.
use Rattle.std.proofs.Common.{arith, ℕ, ◌≡◌, List, Bool, true, get_or, refl, ◌∙◌, rules}
use Rattle.std.proofs.lemmas.Bool.Decides.{nat_tests}
use Rattle.std.specs.Prelude.{Result, Ok, Err}
use mathlib.Core.Path.{subst}
use mathlib.Core.Logic.{⊎_elim}
use lib.Dec.{eqb}
use borrow.Author.Tests.{eqb-true, le-leb, lt-leb}
use Rattle.refusals.specs.declared.Refusal.{Refusal}
use Rattle.signals.specs.declared.Verdict.{Verdict}
use Rattle.signals.specs.Answer.{answer_of, judged, Decodes}
use Rattle.signals.specs.Signals.{verdict_rule, in_range, place}
use Rattle.signals.proofs.Constants.{lent, elements}
use Rattle.signals.proofs.Entries.{every, at}
use Rattle.signals.proofs.Verdicts.{Known, known, rule_at, InRange, in-range, place_in, rule-at-place}
use Rattle.signals.proofs.judge.Code.Mir as code
use Rattle.signals.proofs.judge.Goals as goal

ruleset tests = (rules, le-leb, lt-leb)

-- the constant VERDICTS, which the tenth statement of `judge` lends
unfoldable pub table : List ℕ
table = elements (lent code.s-10 refl)

-- the entry x at place k is the rule's verdict there
right : ℕ → ℕ → Bool
right k x = eqb x (rule_at k)

-- all 1,152 entries are right: antt computes this
all_right : every right 0 table ≡ true
unfolding table right verdict_rule
all_right = refl

-- the entry at the place of a line, a signal and flags in range is the rule's verdict for them
pub entry :
    {line signal flags : ℕ} → InRange line signal flags →
    get_or table (place line signal flags) 0 ≡ verdict_rule line signal flags
unfolding table right
entry {line} {signal} {flags} r =
    let k : ℕ = place line signal flags in
    let tested = at right table all_right k (place_in r) in
    eqb-true (get_or table k 0) (rule_at k) tested ∙ rule-at-place r

-- what one of the four tests refuses is out of range
pub returns-then-line-lt1 : goal.returns-then-line-lt1
unfolding judged in_range
returns-then-line-lt1 c =
    ⊎_elim
    (λ line-below. search tests)
    (⊎_elim
    (λ line-above. search tests)
    (⊎_elim (λ signal-above. search tests) (λ flags-above. search tests)))
    c.then-line-lt1.either

-- the verdict of one of the numbers is no refusal
settled :
    (n : ℕ) (r : Result Verdict Refusal) → Known n → Decodes n r →
    answer_of r ≡ record { code = 0; verdict = n }
settled n (Ok v) k is = rw is
settled n (Err e) k is = absurd (grind (arith, nat_tests))

pub returns : goal.returns
unfolding judged table
returns c =
    let a = c.args in
    let r : InRange a.line a.signal a.flags = record {
      first-line = omega arith;
      last_line = omega arith;
      last-signal = omega arith;
      last-flags = omega arith;
    } in
    let told : Decodes (get_or table (place a.line a.signal a.flags) 0) c.try_from.result =
    c.try_from.ensures in
    let is = subst (λ (n : ℕ). Decodes n c.try_from.result) (entry r) told in
    rw (in-range r) (settled _ c.try_from.result (known a.line a.signal a.flags) is)
