use Rattle.std.proofs.Common.{◌≡◌, ◌<◌, ◌-◌, sym, ◌∙◌, arith}
use Rattle.bigendian.proofs.Places.{stored-next, stored_past}
use Rattle.bigendian.proofs.put.Goals as goal

pub loop-i-preserved : goal.loop-i-preserved
loop-i-preserved g c =
    let w = g.N.Number.BYTES in
    let i = c.loop-i.i in
    let below : i < w = omega arith in
    let next = stored-next (c.BYTES.result - 1 - i) i w c.loop-i.s c.args.at c.wide-wide.result (omega arith) below in
    rw c.put_byte.ensures (next ∙ c.loop-i.invariant)

pub returns : goal.returns
returns g c =
    let s = c.args.s.now in
    let at = c.args.at in
    let wide = c.wide-wide in
    let done : g.N.Number.BYTES - c.loop-i.i ≡ 0 = omega arith in
    let stored = rw done at c.loop-i.invariant in
    rw (← wide.ensures.value, g.met.N.Number.stores s at wide.result wide.ensures.upper_bound) stored

pub returns-then-s-at : goal.returns-then-s-at
returns-then-s-at g c =
    let s = c.args.s.now in
    let at = c.args.at in
    let wide = c.wide-wide in
    let past = stored_past g.N.Number.BYTES s at wide.result c.if-s-at.true in
    rw (← wide.ensures.value, g.met.N.Number.stores s at wide.result wide.ensures.upper_bound) (sym past)
