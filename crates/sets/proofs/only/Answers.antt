-- Below 64 the shift loses nothing, and from 64 on the rule gives 0.
use Rattle.std.proofs.Common.{◌^◌, sym, ◌∙◌, arith}
use native.Mathlib.Nat.{one-mul}
use borrow.Author.Tests.{le-ltb}
use lib.Dec.{lit<}
use lib.Pow.{shl_exact}
use Rattle.sets.specs.Sets.{single}
use Rattle.sets.proofs.Membership.{single-power}
use Rattle.sets.proofs.only.Goals as goal

pub returns-then-n-lt-TURNOUTS : goal.returns-then-n-lt-TURNOUTS
returns-then-n-lt-TURNOUTS c =
    let n = c.args.n in
    shl_exact 1 n 64 (lit< tt) (omega arith)
    ∙ one-mul (2 ^ n)
    ∙ sym (single-power n c.if-n-lt-TURNOUTS.true)

pub returns : goal.returns
unfolding single
returns c = rw (le-ltb _ _ c.if-n-lt-TURNOUTS.false)
