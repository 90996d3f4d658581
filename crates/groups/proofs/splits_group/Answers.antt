use Rattle.std.proofs.Common.{◌≡◌, ◌≤◌, ℕ, refl, sym, ap, ◌∙◌, add-one, arith}
use mathlib.Core.Path.{ap₂}
use mathlib.Core.Bool.{not}
use Rattle.sets.specs.Sets.{has, overlaps}
use Rattle.station.specs.declared.Station.{Station}
use Rattle.station.specs.Station.{turnout_count}
use Rattle.groups.proofs.Numbers.{numbers_of, splits-numbers}
use Rattle.groups.proofs.splits_group.Goals as goal

-- "a count over its limit is read as the limit", also one of 65 to 255: it fits in eight bits
at-most-64 : (st : Station) → turnout_count st ≤ 64
at-most-64 st = omega arith

pub loop-i-init : goal.loop-i-init
unfolding numbers_of
loop-i-init c = (refl, refl)

pub loop-i-preserved : goal.loop-i-preserved
unfolding numbers_of
loop-i-preserved c =
    let inside = c.contains-inside.ensures in (
      rw (c.with_number-taken.ensures, c.loop-i.invariant.0, inside, c.from-n.ensures, add-one c.loop-i.i),
      rw (c.with_number-left.ensures, c.loop-i.invariant.1, inside, c.from-n.ensures, add-one c.loop-i.i),
    )

pub returns : goal.returns
returns c =
    let st = c.args.st in
    let s = c.args.s in
    let few = at-most-64 st in
    let ended : c.loop-i.i ≡ turnout_count st = omega (arith, few) in
    let taken = c.loop-i.invariant.0 ∙ ap (numbers_of st.turnout (has s)) ended in
    let left = c.loop-i.invariant.1 ∙ ap (numbers_of st.turnout (λ k. not (has s k))) ended in
    c.overlap.ensures
    ∙ ap₂ (λ (x y : ℕ). overlaps x y) taken left
    ∙ sym (splits-numbers st s)
