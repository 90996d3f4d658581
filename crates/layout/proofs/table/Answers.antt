use Rattle.std.proofs.Common.{◌≡◌, ℕ, ◌<◌, sym, ap, ap₂, ◌∙◌, arith}
use Prim.Native.Nat.{min}
use lib.ListN.{set}
use Rattle.sets.proofs.Tables.{places-none, places-next, places-limit}
use Rattle.sets.specs.Table.{places}
use Rattle.layout.proofs.table.Goals as goal

pub loop-i-init : goal.loop-i-init
loop-i-init g c = λ f each. sym (places-none f c.args.empty)

pub loop-i-preserved : goal.loop-i-preserved
loop-i-preserved g c = λ f each.
    let i = c.loop-i.i in
    let inside : i < 64 = omega arith in
    ap₂ (λ l x. set l i x) (c.loop-i.invariant f each) (each i c.at.result c.at.ensures)
    ∙ places-next f i c.args.empty inside

pub returns : goal.returns
returns g c = λ f each.
    let all : c.loop-i.i ≡ min c.args.n 64 = omega arith in
    c.loop-i.invariant f each
    ∙ ap (λ (m : ℕ). places f m c.args.empty) all
    ∙ places-limit f c.args.n c.args.empty
