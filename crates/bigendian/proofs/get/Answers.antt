use Rattle.std.proofs.Common.{◌≡◌, ◌^◌, ◌<◌, sym, ◌∙◌, arith}
use native.Mathlib.Nat.{zero-mod}
use Rattle.bigendian.proofs.Numbers.{next-lt, next_fits}
use Rattle.bigendian.proofs.Places.{number-next, number_past, number_whole}
use Rattle.bigendian.proofs.get.Goals as goal

pub overflow_mul-n : goal.overflow_mul-n
overflow_mul-n g c =
    let few : c.loop-i.i < 8 = omega (arith, g.met.N.Number.narrow) in
    let fits = next_fits c.loop-i.n 0 c.loop-i.i c.loop-i.invariant.1 (omega arith) few in
    omega (arith, fits)

pub overflow_add-n : goal.overflow_add-n
overflow_add-n g c =
    let few : c.loop-i.i < 8 = omega (arith, g.met.N.Number.narrow) in
    let fits = next_fits c.loop-i.n c.from.result c.loop-i.i c.loop-i.invariant.1 (omega arith) few in
    omega (arith, fits)

pub loop-i-preserved : goal.loop-i-preserved
loop-i-preserved g c =
    let byte : c.from.result < 256 = omega arith in (
      rw (number-next, c.loop-i.invariant.0, c.from.ensures, c.byte_of.ensures),
      next-lt c.loop-i.n c.from.result c.loop-i.i c.loop-i.invariant.1 byte,
    )

pub returns : goal.returns
returns g c =
    let s = c.args.s.now in
    let at = c.args.at in
    let all : c.loop-i.i ≡ g.N.Number.BYTES = omega arith in
    let read = number_whole s at c.loop-i.n all c.loop-i.invariant.0 c.loop-i.invariant.1 in
    rw (c.low-2.ensures, g.met.N.Number.reads s at) read

pub returns-then-s-at : goal.returns-then-s-at
returns-then-s-at g c =
    let past = number_past g.N.Number.BYTES c.args.s.now c.args.at c.if-s-at.true in
    c.low.ensures ∙ zero-mod (256 ^ g.N.Number.BYTES) ∙ sym (g.met.N.Number.reads c.args.s.now c.args.at ∙ past)
