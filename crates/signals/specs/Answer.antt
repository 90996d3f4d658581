-- What the verdict call answers, in the numbers of SIGNAL-2 and SIGNAL-3 (docs/RULES.md): the code,
-- 0 or 33, and the verdict, 0 when refused.
use Rattle.std.specs.Prelude.{◌≡◌, ◌&&◌, cond, false, leb, ℕ, Result, Ok, Err, MatchResult}
use Rattle.refusals.specs.declared.Refusal.{Refusal}
use Rattle.refusals.specs.declared.Refusal.TheVariants.{OutOfRange}
use Rattle.refusals.specs.Numbers as numbers
use Rattle.signals.specs.declared.Verdict.{Verdict}
use Rattle.signals.specs.declared.Verdict.TheVariants.{AtDanger, Dark, DarkBlockOut}
use Rattle.signals.specs.declared.Verdict.TheVariants.{AnyAspectBlockOut, ClosureOnly}
use Rattle.signals.specs.declared.Verdict.TheVariants.{NoSuchSignal}
use Rattle.signals.specs.Signals.{verdict_rule, in_range}

pub record Answer : Type 0 where
  pub code : ℕ
  pub verdict : ℕ

-- SIGNAL-3: the number of each verdict
abbrev pub number_of : Verdict → ℕ
number_of AtDanger = 1
number_of Dark = 2
number_of DarkBlockOut = 3
number_of AnyAspectBlockOut = 4
number_of ClosureOnly = 5
number_of NoSuchSignal = 6

-- SIGNAL-2, FORM-9: the code and verdict of each answer
abbrev pub answer_of : Result Verdict Refusal → Answer
answer_of (Ok v) = record { code = 0; verdict = number_of v }
answer_of (Err e) = record { code = numbers.number_of e; verdict = 0 }

-- the result is the verdict with this number, or 33 where none of SIGNAL-3 has it
abbrev pub Decodes : ℕ → Result Verdict Refusal → Type 0
Decodes n r = MatchResult r (λ v. number_of v ≡ n) (λ e. (e ≡ OutOfRange) × ((leb 1 n && leb n 6) ≡ false))

-- SIGNAL-2, SIGNAL-3: the answer for a line, a signal and flags: the rule's verdict, or 33 with
-- verdict 0
unfoldable pub judged : ℕ → ℕ → ℕ → Answer
unfolding in_range verdict_rule
judged line signal flags =
    cond (in_range line signal flags)
    (record { code = 0; verdict = verdict_rule line signal flags })
    (record { code = 33; verdict = 0 })
