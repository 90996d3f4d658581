-- Laws of the rule: it gives one of the six verdicts, and a place tells its line, signal and flags.
use mathlib.Core.Path.{◌≡◌}
use mathlib.Core.Bool.{Bool, true, false, cond}
use Prim.Native.Nat.{ℕ, ◌+◌, ◌/◌, ◌%◌, ◌<◌, ◌≤◌}
use native.Mathlib.Omega.{arith}
use lib.Dec.{lit≤}
use borrow.Author.Tests.{le-leb}
use Rattle.signals.specs.Signals.{verdict_rule, dark_verdict, in_range, place}

-- one of the verdicts of SIGNAL-3 (docs/RULES.md)
abbrev pub Known : ℕ → Type 0
Known n = (1 ≤ n) × (n ≤ 6)

-- a choice between two of them is one of them
chosen : (b : Bool) (m n : ℕ) → Known m → Known n → Known (cond b m n)
chosen true m n p q = p
chosen false m n p q = q

-- the rule gives one of them
pub known : (line signal flags : ℕ) → Known (verdict_rule line signal flags)
unfolding verdict_rule dark_verdict
known line signal flags = search (chosen, lit≤) depth 12

-- the rule's verdict for the line, the signal and the flags whose place is k
abbrev pub rule_at : ℕ → ℕ
rule_at k = verdict_rule (k / 384 + 1) (k / 64 % 6) (k % 64)

-- a line, a signal and flags in range
pub record InRange (line signal flags : ℕ) : Type 0 where
  pub first-line : 1 ≤ line
  pub last_line : line ≤ 3
  pub last-signal : signal ≤ 5
  pub last-flags : flags ≤ 63

module _ {line signal flags : ℕ} (r : InRange line signal flags) where
  -- they pass the range test of the rules
  pub in-range : in_range line signal flags ≡ true
  unfolding in_range
  in-range =
      rw (
        le-leb 1 line r.first-line,
        le-leb line 3 r.last_line,
        le-leb signal 5 r.last-signal,
        le-leb flags 63 r.last-flags,
      )

  -- their place is one of the table's
  pub place_in : place line signal flags < 1152
  place_in = omega arith

  -- the rule at their place is their rule
  pub rule-at-place : rule_at (place line signal flags) ≡ verdict_rule line signal flags
  rule-at-place =
      let k : ℕ = place line signal flags in
      let of-line : k / 384 + 1 ≡ line = omega arith in
      let of-signal : k / 64 % 6 ≡ signal = omega arith in
      let of-flags : k % 64 ≡ flags = omega arith in
      rw (of-line, of-signal, of-flags)
