-- A record that is refused, and one that is accepted: the zone that is stored is the desk's next.
use Rattle.std.proofs.Common.{rules, refl, sym, ap, ◌∙◌, eq-eqb}
use Rattle.refusals.specs.Numbers.{number_of}
use Rattle.zone.specs.Zone.{Answer}
use Rattle.desk.specs.Desk.{Applied}
use Rattle.works_desk_unit.specs.Unit.{started, unit_applied}
use Rattle.works_desk_unit.proofs.Started.{
  started-desk,
  record-heard,
  record-refused,
  unit-refused,
  zone-answered,
}
use Rattle.works_desk_unit.proofs.apply.Goals as goal

pub returns-in_err-m : goal.returns-in_err-m
returns-in_err-m c =
    let st = c.in_ok-st in
    let s = c.args.desk.now in
    let r = c.args.«record».now in
    let e = c.in_err-m.field-0.0 in
    let code = sym (ap (λ (a : Applied). a.code) (record-refused st.st s r (number_of e) c.in_err-m.ensures)) in
    let told = unit-refused c.args.sheet.now s r st.st e st.ensures.number st.ensures.station code in
    search rules

pub returns-in_err-heard : goal.returns-in_err-heard
returns-in_err-heard c =
    let st = c.in_ok-st in
    let s = c.args.desk.now in
    let r = c.args.«record».now in
    let e = c.in_err-heard.field-0.0 in
    let zone = ap (λ (a : Answer). a.code) c.in_err-heard.ensures in
    let heard = ap (λ (a : Applied). a.code) (record-heard st.st s r c.in_ok-m.m c.in_ok-m.ensures) in
    let code = rw (c.zone_at-z.ensures, c.zone_place-place.ensures.value) at zone in
    let told =
    unit-refused c.args.sheet.now s r st.st e st.ensures.number st.ensures.station (code ∙ sym heard) in
    search rules

pub returns : goal.returns
unfolding unit_applied
returns c =
    let st = c.in_ok-st in
    let s = c.args.desk.now in
    let number = sym st.ensures.number in
    let place = c.zone_place-place in
    let heard = c.in_ok-heard.heard in
    let answer : Answer = record { code = 0; minutes = heard.minutes; zone = heard.zone } in
    rw (
      c.put_zone_at.ensures,
      eq-eqb (started c.args.sheet.now s).code 0 number,
      ← st.ensures.station,
      record-heard st.st s c.args.«record».now c.in_ok-m.m c.in_ok-m.ensures,
      ← place.ensures.value,
      ← c.zone_at-z.ensures,
      ← c.in_ok-heard.ensures,
    )
    (sym (zone-answered s place.result answer (started-desk c.args.sheet.now s number)
    place.ensures.upper_bound refl))
