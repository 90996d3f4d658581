use Rattle.std.proofs.Common.{◌≡◌, ℕ, ◌<◌, List, sym, ap, ◌∙◌, arith}
use mathlib.Core.Path.{ap₂}
use Prim.Native.Nat.{min}
use lib.ListN.{set}
use Rattle.sets.specs.Table.{places}
use Rattle.sets.proofs.Tables.{places-none, places-next, places-limit}
use Rattle.groups.specs.Groups.{number_in, tied_among, tied_in}
use Rattle.groups.proofs.Ties.{tied-in}
use Rattle.groups.proofs.carriers.ties.Goals as goal

pub loop-i-init : goal.loop-i-init
loop-i-init c = sym (places-none (tied_among c.args.p c.args.ts) 0)

pub loop-i-preserved : goal.loop-i-preserved
loop-i-preserved c =
    let p = c.args.p in
    let ts = c.args.ts in
    let i = c.loop-i.i in
    let below : i < min p 64 = omega arith in
    let inside : i < 64 = omega arith in
    let here =
    c.tied_in.ensures
    ∙ ap (λ (gs : List ℕ). tied_in gs i (number_in ts i)) c.group_sets-gs.ensures
    ∙ tied-in p ts i below in
    ap₂ (λ (l : List ℕ) (s : ℕ). set l i s) c.loop-i.invariant here
    ∙ places-next (tied_among p ts) i 0 inside

pub returns : goal.returns
returns c =
    let f = tied_among c.args.p c.args.ts in
    let all : c.loop-i.i ≡ min c.args.p 64 = omega arith in
    c.loop-i.invariant ∙ ap (λ (m : ℕ). places f m 0) all ∙ places-limit f c.args.p 0
