use Rattle.std.proofs.Common.{◌≡◌, ℕ, ◌<◌, List, sym, ap, ◌∙◌, arith}
use mathlib.Core.Path.{ap₂}
use Prim.Native.Nat.{min}
use lib.ListN.{set}
use Rattle.sets.specs.Table.{places}
use Rattle.sets.proofs.Tables.{places-none, places-next, places-limit}
use Rattle.sheet.proofs.judge.pairs_in.Invariants.{pair-at}
use Rattle.sheet.proofs.judge.pairs_in.Goals as goal

pub loop-i-init : goal.loop-i-init
loop-i-init c = sym (places-none (pair-at c.args.groups) 0)

pub loop-i-preserved : goal.loop-i-preserved
loop-i-preserved c =
    let groups = c.args.groups in
    let i = c.loop-i.i in
    let inside : i < 64 = omega arith in
    ap₂ (λ (l : List ℕ) (g : ℕ). set l i g) c.loop-i.invariant c.pair_in.ensures
    ∙ places-next (pair-at groups) i 0 inside

pub returns : goal.returns
returns c =
    let f = pair-at c.args.groups in
    let all : c.loop-i.i ≡ min c.args.p 64 = omega arith in
    c.loop-i.invariant ∙ ap (λ (m : ℕ). places f m 0) all ∙ places-limit f c.args.p 0
