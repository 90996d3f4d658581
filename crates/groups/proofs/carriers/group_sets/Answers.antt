use Rattle.std.proofs.Common.{◌≡◌, ℕ, List, ap, ◌∙◌, arith}
use Prim.Native.Nat.{min}
use Rattle.groups.specs.Groups.{number_in, carriers_among, group_sets}
use Rattle.groups.proofs.Labels.{joined, by_set, by-none, by_next, by-other}
use Rattle.groups.proofs.carriers.group_sets.Goals as goal

pub loop-i-init : goal.loop-i-init
loop-i-init c = by-none (number_in c.args.ts)

pub loop-i-preserved-then-at-ge32 : goal.loop-i-preserved-then-at-ge32
loop-i-preserved-then-at-ge32 c =
    c.loop-i.invariant ∙ by-other (number_in c.args.ts) c.loop-i.i (omega arith)

pub loop-i-preserved : goal.loop-i-preserved
loop-i-preserved c =
    let ts = c.args.ts in
    let i = c.loop-i.i in
    let next =
    ap (λ (gs : List ℕ). joined gs (number_in ts i) i) c.loop-i.invariant
    ∙ by_next (number_in ts) i in
    rw (c.join.ensures, c.only.ensures, c.from-at.ensures) next

pub returns : goal.returns
unfolding group_sets carriers_among
returns c =
    let all : c.loop-i.i ≡ min c.args.p 64 = omega arith in
    c.loop-i.invariant ∙ ap (by_set (number_in c.args.ts)) all
