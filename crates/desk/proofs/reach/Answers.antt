use Rattle.std.proofs.Common.{rules}
use Rattle.refusals.specs.Numbers.{number_of}
use Rattle.desk.proofs.InPlace.{reached-in-place, refused_in_place}
use Rattle.desk.proofs.reach.Goals as goal

pub returns-in_err-heard : goal.returns-in_err-heard
returns-in_err-heard c =
    let a = c.args in
    let place = c.zone_place-place.result in
    let e = c.in_err-heard.field-0.0 in
    rw (
      reached-in-place a.st a.d a.m,
      ← c.zone_place-place.ensures.value,
      ← c.zone_hears.ensures,
      c.in_err-heard.was,
      refused_in_place a.d place (number_of e),
    )
    (search rules)

pub returns : goal.returns
returns c =
    let a = c.args in
    rw (
      reached-in-place a.st a.d a.m,
      ← c.zone_place-place.ensures.value,
      ← c.zone_hears.ensures,
      c.in_ok-heard.was,
    )
