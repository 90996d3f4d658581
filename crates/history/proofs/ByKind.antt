-- An accepted message, whatever its kind, keeps its zone in agreement with its history.
use mathlib.Core.Bool.{true, false, not}
use mathlib.Core.List.{List}
use mathlib.Core.Path.{◌≡◌, refl}
use Prim.Native.Nat.{ℕ}
use native.Mathlib.Omega.{arith}
use borrow.Author.Tests.{not-false}
use lib.ListN.{get_or-eq_default}
use Rattle.message.specs.declared.Message.{Message}
use Rattle.message.specs.Fields.{field_number}
use Rattle.message.proofs.EachKind.{◌also◌, each-kind}
use Rattle.station.specs.declared.Station.{Station}
use Rattle.zone.specs.declared.Zone.{Zone}
use Rattle.zone.specs.Movement.{is_standing, under_train}
use Rattle.zone.specs.Trains.{movement_under, no_place, named_standing, cleared_standing, placed}
use Rattle.zone.specs.Trains.{changed}
use Rattle.zone.proofs.EachTrain.{found-under, found}
use Rattle.rules.specs.declared.Concerned.{Concerned}
use Rattle.rules.specs.Routes.{concerned}
use Rattle.rules.specs.Kinds.{first, row, rows, no_kind, row1, row2, row3, row4, row5, row6, row7}
use Rattle.rules.specs.Kinds.{row8, row9, row10, row13, checks_of, zone_after, work_after, moved}
use Rattle.history.proofs.Append.{◌then◌}
use Rattle.history.proofs.Checks.{passed, clearance-turnout, key-turnout}
use Rattle.history.proofs.Agrees.{Agrees}
use Rattle.history.proofs.Steps.{step1, step2, step3, step4, step5, step6, step7, step8}
use Rattle.history.proofs.Steps.{step9, step10, step11, step12, step13}

module _ (st : Station) (n : ℕ) (H : List Message) (m : Message) (z : Zone) where
  -- after a message of kind k that passed its checks
  abbrev StepOf : ℕ → Type 0
  StepOf k =
      m.kind ≡ k → first (checks_of k st z m) ≡ 0
      → Agrees st n (H then m) (work_after k z.work m) (moved k z m).movement

  pub step :
      field_number m ≡ 0 → m.zone ≡ n → first (checks_of m.kind st z m) ≡ 0
      → Agrees st n H z.work z.movement
      → Agrees st n (H then m) (zone_after m.kind z m).work (zone_after m.kind z m).movement
  unfolding zone_after row work_after moved no_place named_standing cleared_standing placed changed
  step rules zone checks a = by_kind m.kind refl checks
    where
      routes : Concerned
      routes = concerned st z m

      -- kinds 6 to 9 and 13: the movement is the message's train's
      its :
          not (is_standing (movement_under z m.id)) ≡ false →
          under_train z.movement m.id ≡ true
      its c = found-under z m.id (not-false (is_standing (movement_under z m.id)) c)

      by_kind : (k : ℕ) → StepOf k
      by_kind =
          each-kind StepOf
          ((λ e none. absurd (omega arith))
          also (λ e none.
          let c = passed (row1 st routes z m) refl none in
          step1 st n H m z.work z.movement e zone c.0 c.1.0 a)
          also (λ e none.
          let c = passed (row2 st routes z m) refl none in
          step2 st n H m z.work z.movement e c.0 c.1.0 a)
          also (λ e none.
          let c = passed (row3 st routes z m) refl none in
          step3 st n H m z.work z.movement e c.1.0 a)
          also (λ e none.
          let c = passed (row4 st routes z m) refl none in
          step4 st n H m z.work z.movement e c.1.0 c.1.1.0 c.1.1.1.0 a)
          also (λ e none.
          let c = passed (row5 st routes z m) refl none in
          rw c.0 (step5 st n H m z.work z.movement e a))
          also (λ e none.
          let c = passed (row6 st routes z m) refl none in
          let same = found z m.id (its c.0) in
          let worked = rw same at c.1.1.0 in
          let fits = rw same at c.1.1.1.0 in
          let turnout = clearance-turnout m e rules in
          rw (same, its c.0)
          (step6 st n H m z.work z.movement e turnout (its c.0) worked fits a))
          also (λ e none.
          let c = passed (row7 st routes z m) refl none in
          rw (
            found z m.id (its c.0),
            its c.0,
          ) (step7 st n H m z.work z.movement e a))
          also (λ e none.
          let c = passed (row8 st routes z m) refl none in
          rw (its c.0) (step8 st n H m z.work z.movement e a))
          also (λ e none.
          let c = passed (row9 st routes z m) refl none in
          rw (its c.0) (step9 st n H m z.work z.movement e a))
          also (λ e none.
          let c = passed (row10 st routes z m) refl none in
          step10 st n H m z.work z.movement e c.1.1.0 a)
          also (λ e none. step11 st n H m z.work z.movement e a)
          also (λ e none. step12 st n H m z.work z.movement e a)
          also (λ e none.
          let c = passed (row13 st routes z m) refl none in
          let turnout = key-turnout m e rules in
          rw (
            found z m.id (its c.0),
            its c.0,
          ) (step13 st n H m z.work z.movement e turnout (its c.0) a))
          also tt)
          (λ k past e none.
          let eleven : ◌≡◌ {A = ℕ} 11 0 = rw (get_or-eq_default rows no_kind past) at none in
          absurd (omega arith))
