-- Demand 3: the theorem. After every list of hearings from the fresh desk the four sentences hold;
-- the statement is in specs/Demand3.antt.
use mathlib.Core.Bool.{Bool, true, false, and-eq-true_iff, true≢false}
use mathlib.Core.List.{List, []}
use mathlib.Core.Logic.{◌↔◌}
use mathlib.Core.Path.{◌≡◌, refl, sym, ◌∙◌}
use Prim.Native.Nat.{ℕ, ◌≤◌}
use native.Mathlib.Omega.{arith}
use borrow.Author.Tests.{lt-ltb, ltb-false}
use lib.Dec.{eqb, ltb}
use Rattle.sets.specs.Sets.{has}
use Rattle.message.specs.declared.Message.{Message}
use Rattle.station.specs.declared.Station.{Station}
use Rattle.station.specs.Station.{turnout_count, zone_count, zone_of}
use Rattle.sheet.specs.Sheet.{read_sheet}
use Rattle.zone.specs.declared.Work.{Work}
use Rattle.zone.specs.Movement.{Movement, is_standing, train_of}
use Rattle.zone.specs.declared.Regime.TheVariants.{Clear}
use Rattle.zone.specs.Work.{open_set}
use Rattle.zone.proofs.EachTrain.{found}
use Rattle.desk.specs.declared.Desk.{Desk}
use Rattle.desk.specs.Desk.{fresh_desk, zone_at}
use Rattle.desk.specs.Questions.{movement_answered, work_answered}
use Rattle.history.specs.Since.{never, since, after_last}
use Rattle.history.specs.History.{under_agreed_work, open_to_work, opened, agreement, standing}
use Rattle.history.specs.History.{cleared, EachWorkedAllowsClear}
use Rattle.history.specs.Lists.{Input, desk_after, zone_messages}
use Rattle.history.specs.Demand3.{ours, Holds, Demand3}
use Rattle.history.proofs.Agrees.{InZone, Agrees, under-is}
use Rattle.history.proofs.Works.{agreed-in}
use Rattle.history.proofs.Standing.{cleared-is, told}
use Rattle.history.proofs.Runs.{AllAgree, run-agrees, fresh-agrees, same-desk, same-answers}

-- an open turnout is one of the zone
open-here :
    {st : Station} {n : ℕ} {H : List Message} {w : Work} {v : Movement} → Agrees st n H w v →
    (t : ℕ) → open_to_work t H ≡ true → InZone st n t
unfolding open_to_work
open-here {H = H} {w = w} a t o =
    let under = ((and-eq-true_iff (under_agreed_work t H) (opened t (agreement H))).0 o).0 in
    a.works.here t (agreed-in w t (sym (under-is H w a.works.work t) ∙ under))

module _ (st : Station) (inputs : List Input) where
  -- the desk after the list, and the messages of each zone
  abbrev end : Desk
  end = desk_after ours st inputs

  abbrev story : ℕ → List Message
  story = zone_messages ours st inputs

  pub all : AllAgree st end story
  all = run-agrees st inputs fresh_desk (λ n. []) (fresh-agrees st)

  -- no turnout is open to work and cleared
  apart : (t z z' : ℕ) → open_to_work t (story z) ≡ true → cleared t (story z') ≡ true → ⊥
  apart t z z' o c =
      let there = all.each z' in
      let is-cleared =
      sym (cleared-is st (story z') (zone_at end z').movement there.movement t) ∙ c in
      let same : z ≡ z' =
      sym (open-here (all.each z) t o).zone ∙ (there.cleared-here t is-cleared).zone in
      there.apart t (sym (there.works.opened t) ∙ rw same at o) is-cleared

  -- what is no zone of the station has nothing open and nothing standing
  no-zone-open : (t z : ℕ) → zone_count st ≤ z → open_to_work t (story z) ≡ true → ⊥
  unfolding open_to_work under_agreed_work after_last
  no-zone-open t z past o = true≢false (sym o ∙ rw (all.outside z past))

  -- the work question
  work : (t : ℕ) → ((work_answered st end t).yes ≡ true) ↔ ((z : ℕ) × (open_to_work t (story z) ≡ true))
  unfolding work_answered
  work t = (asked (ltb t (turnout_count st)) refl, answered)
    where
      asked :
          (b : Bool) → ltb t (turnout_count st) ≡ b → (work_answered st end t).yes ≡ true →
          (z : ℕ) × (open_to_work t (story z) ≡ true)
      asked true q says =
          let z = zone_of st t in
          let is_open = has (open_set (zone_at end z).work) t in
          let both = (and-eq-true_iff (ltb z (zone_count st)) is_open).0 (rw q at says) in
          (z, (all.each z).works.opened t ∙ both.1)
      asked false q says = absurd (true≢false (sym (rw q at says)))

      answered : ((z : ℕ) × (open_to_work t (story z) ≡ true)) → (work_answered st end t).yes ≡ true
      answered o = go (ltb o.0 (zone_count st)) refl
        where
          here : InZone st o.0 t
          here = open-here (all.each o.0) t o.1

          go : (b : Bool) → ltb o.0 (zone_count st) ≡ b → (work_answered st end t).yes ≡ true
          go true q =
              rw (
                lt-ltb t (turnout_count st) here.below,
                here.zone,
                q,
              ) (sym ((all.each o.0).works.opened t) ∙ o.1)
          go false q = absurd (no-zone-open t o.0 (ltb-false o.0 (zone_count st) q) o.1)

  -- the movement question
  clear : (z : ℕ) (f : Message) (rest : List Message) → standing (story z) ≡ since f rest
      → ((movement_answered st end z f.id).regime ≡ Clear)
      ↔ EachWorkedAllowsClear st (story z) f rest
  unfolding movement_answered standing after_last
  clear z f rest stands = go (ltb z (zone_count st)) refl
    where
      go :
          (b : Bool) → ltb z (zone_count st) ≡ b →
          ((movement_answered st end z f.id).regime ≡ Clear)
          ↔ EachWorkedAllowsClear st (story z) f rest
      go true q =
          let a = all.each z in
          let v = (zone_at end z).movement in
          let w = (zone_at end z).work in
          let c = told st (story z) (story z) w v f rest a.works.work a.movement stands in
          let its = found (zone_at end z) f.id c.under in
          let stands-there =
          ((and-eq-true_iff (is_standing v) (eqb (train_of v) f.id)).0 c.under).0 in
          rw (q, its, stands-there) c.clear
      go false q =
          let nothing : never ≡ since f rest =
          rw (all.outside z (ltb-false z (zone_count st) q)) at stands in
          let impossible : ◌≡◌ {A = ℕ} 0 1 = cc in
          absurd (omega arith)

  -- what holds after the list, on any station
  pub holds : Holds ours st inputs
  holds = record {
    apart = apart;
    work = work;
    clear = clear;
    same-desk = same-desk st inputs fresh_desk;
    same-answers = same-answers st inputs fresh_desk;
  }

-- DEMAND 3
pub demand3 : Demand3 ours
demand3 sheet code inputs = holds (read_sheet sheet).station inputs
