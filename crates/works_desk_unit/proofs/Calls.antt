-- The numbers that the unit's calls return show demand 3: on an accepted sheet their code fits its
-- byte, so that byte 1 is yes, or the regime.
use mathlib.Core.Bool.{Bool, true, false, cond, not}
use mathlib.Core.List.{List}
use mathlib.Core.Logic.Iff
use mathlib.Core.Logic.{◌↔◌}
use mathlib.Core.Path.{◌≡◌, refl, sym, ap, ◌∙◌}
use Prim.Native.Nat.{ℕ, ◌<◌}
use native.Mathlib.Omega.{arith}
use lib.Dec.{eqb, ltb, lit<}
use borrow.Author.Tests.{eq-eqb}
use Rattle.station.specs.declared.Station.{Station}
use Rattle.station.specs.Station.{turnout_count, zone_count}
use Rattle.sheet.specs.Sheet.{read_sheet}
use Rattle.zone.specs.declared.Regime.{Regime}
use Rattle.zone.specs.declared.Regime.TheVariants.{Held, Clear, Danger}
use Rattle.zone.specs.Movement.{is_standing, regime_number}
use Rattle.zone.specs.Trains.{movement_under}
use Rattle.desk.specs.declared.Desk.{Desk}
use Rattle.desk.specs.Desk.{zone_at}
use Rattle.desk.specs.Questions.{movement_answered, work_answered}
use Rattle.desk_bytes.specs.Encoding.{desk_in, is_desk}
use Rattle.packed.proofs.Unpacked.{answer-bytes, regime-byte, work-bytes}
use Rattle.history.specs.Lists.{desk_after}
use Rattle.works_desk_unit.specs.Unit.{started, unit_applied, unit_movement, unit_work}
use Rattle.works_desk_unit.specs.OneByOne.{unit_of}
use Rattle.works_desk_unit.specs.Calls.{CallsDemand3}
use Rattle.works_desk_unit.proofs.Codes.{answer-fits}
use Rattle.works_desk_unit.proofs.Demand3.{unit-demand3}

-- the desk's codes for the two questions: 0, 12, 15; 0, 13
movement-fits :
    (st : Station) (d : Desk) (zone train : ℕ) → (movement_answered st d zone train).code < 256
unfolding movement_answered
movement-fits st d zone train =
    let none = not (ltb zone (zone_count st)) in
    let idle = not (is_standing (movement_under (zone_at d zone) train)) in
    go none refl idle refl
  where
    go :
        (none : Bool) → not (ltb zone (zone_count st)) ≡ none
        → (idle : Bool) → not (is_standing (movement_under (zone_at d zone) train)) ≡ idle
        → (movement_answered st d zone train).code < 256
    go true p idle q = rw p (lit< tt)
    go false p true q = rw (p, q) (lit< tt)
    go false p false q = rw (p, q) (lit< tt)

work-fits : (st : Station) (d : Desk) (turnout : ℕ) → (work_answered st d turnout).code < 256
unfolding work_answered
work-fits st d turnout = go (not (ltb turnout (turnout_count st))) refl
  where
    go :
        (none : Bool) → not (ltb turnout (turnout_count st)) ≡ none →
        (work_answered st d turnout).code < 256
    go true p = rw p (lit< tt)
    go false p = rw p (lit< tt)

-- and the unit's, which may be 61
unit-movement-fits :
    (sheet s : List ℕ) → (read_sheet sheet).code ≡ 0 → (zone train : ℕ)
    → (unit_movement sheet s zone train).code < 256
unfolding unit_movement started
unit-movement-fits sheet s good zone train = go (is_desk s) refl
  where
    accepted : eqb (read_sheet sheet).code 0 ≡ true
    accepted = eq-eqb (read_sheet sheet).code 0 good

    go : (b : Bool) → is_desk s ≡ b → (unit_movement sheet s zone train).code < 256
    go true p = rw (accepted, p) (movement-fits (read_sheet sheet).station (desk_in s) zone train)
    go false p = rw (accepted, p) (lit< tt)

unit-work-fits :
    (sheet s : List ℕ) → (read_sheet sheet).code ≡ 0 → (turnout : ℕ) →
    (unit_work sheet s turnout).code < 256
unfolding unit_work started
unit-work-fits sheet s good turnout = go (is_desk s) refl
  where
    accepted : eqb (read_sheet sheet).code 0 ≡ true
    accepted = eq-eqb (read_sheet sheet).code 0 good

    go : (b : Bool) → is_desk s ≡ b → (unit_work sheet s turnout).code < 256
    go true p = rw (accepted, p) (work-fits (read_sheet sheet).station (desk_in s) turnout)
    go false p = rw (accepted, p) (lit< tt)

-- 1 stands for yes, and for clear
yes-is-1 : (b : Bool) → (◌≡◌ {A = ℕ} (cond b 1 0) 1) ↔ (b ≡ true)
yes-is-1 true = (λ e. refl, λ e. refl)
yes-is-1 false = (λ e. absurd (omega arith), λ e. ap (λ (b : Bool). cond {A = ℕ} b 1 0) e)

clear-is-1 : (r : Regime) → (regime_number r ≡ 1) ↔ (r ≡ Clear)
clear-is-1 Held = (λ e. absurd (omega arith), λ e. ap regime_number e)
clear-is-1 Clear = (λ e. refl, λ e. refl)
clear-is-1 Danger = (λ e. absurd (omega arith), λ e. ap regime_number e)

-- a byte is 1 exactly when its value is
of-byte : {byte value : ℕ} → byte ≡ value → (byte ≡ 1) ↔ (value ≡ 1)
of-byte same = (λ one. sym same ∙ one, λ one. same ∙ one)

pub calls-demand3 : CallsDemand3
calls-demand3 sheet good inputs pass =
    let held = unit-demand3 sheet good inputs pass in
    let last = desk_after (unit_of sheet) (read_sheet sheet).station inputs in
    record {
      answer = λ r.
          let a = unit_applied sheet last r in
          answer-bytes a.code a.minutes (answer-fits sheet last r good);
      work = λ t.
          let a = unit_work sheet last t in
          let byte = (work-bytes a (unit-work-fits sheet last good t)).yes-byte in
          Iff.trans (of-byte byte) (Iff.trans (yes-is-1 a.yes) (held.work t));
      clear = λ z f rest stands.
          let a = unit_movement sheet last z f.id in
          let byte = regime-byte a (unit-movement-fits sheet last good z f.id) in
          Iff.trans (of-byte byte)
          (Iff.trans (clear-is-1 a.regime) (held.clear z f rest stands));
    }
