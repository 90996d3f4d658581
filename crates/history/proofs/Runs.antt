-- A list of hearings: every zone agrees with its history after it, and refused inputs leave no
-- trace.
use mathlib.Core.Bool.{Bool, true, false, cond}
use mathlib.Core.List.{List, [], ◌∷◌, ◌++◌, append-nil, append_assoc}
use mathlib.Core.Logic.{◌≢◌}
use mathlib.Core.Path.{◌≡◌, refl, sym, ap, subst, ◌∙◌}
use Prim.Native.Nat.{ℕ, zero, suc, ◌≤◌}
use native.Mathlib.Omega.{arith}
use native.Mathlib.Nat.{lt_irrefl}
use borrow.Author.Tests.{eqb-true, eqb-false, ne_eqb}
use lib.Dec.{eqb}
use lib.ListN.{length, get_or, set, length-set, replicate}
use lib.Seq.{get_or-set_same, get_or-set_other}
use Rattle.message.specs.declared.Message.{Message}
use Rattle.station.specs.declared.Station.{Station}
use Rattle.station.specs.Station.{zone_count}
use Rattle.zone.specs.declared.Zone.{Zone}
use Rattle.zone.specs.declared.Work.TheVariants.{NoWork}
use Rattle.std.specs.Prelude.{None}
use Rattle.zone.specs.Zone.{fresh_zone, no_zone}
use Rattle.rules.specs.Kinds.{zone_after}
use Rattle.desk.specs.declared.Desk.{Desk}
use Rattle.desk.specs.Desk.{fresh_desk, zone_at}
use Rattle.history.specs.Lists.{Input, message_of, Reply, after, answers, accepted, kept}
use Rattle.history.specs.Lists.{kept_answers, of_zone, is_accepted}
use Rattle.history.specs.Demand3.{ours, hears}
use Rattle.history.proofs.Append.{◌then◌}
use Rattle.history.proofs.Agrees.{Agrees, agrees-fresh}
use Rattle.history.proofs.ByKind.{step}
use Rattle.history.proofs.Hearing.{Taken, hear-accepted, same-state}

-- every zone of the desk agrees with its history, and what is no zone of the station has none
pub record AllAgree (st : Station) (d : Desk) (H : ℕ → List Message) : Type 0 where
  pub eight : length d.zones ≡ 8
  pub outside : (n : ℕ) → zone_count st ≤ n → H n ≡ []
  pub each : (n : ℕ) → Agrees st n (H n) (zone_at d n).work (zone_at d n).movement

-- the histories with one more message, in its zone
abbrev more : (ℕ → List Message) → Message → ℕ → List Message
more H m n = cond (eqb m.zone n) (H n then m) (H n)

module _ (st : Station) where
  taken-agrees :
      (d d' : Desk) (H : ℕ → List Message) (m : Message) → Taken st d m d' → AllAgree st d H →
      AllAgree st d' (more H m)
  taken-agrees d d' H m k a = rw k.desk (record {
    eight = length-set d.zones m.zone after-zone ∙ a.eight;
    outside = λ n past.
        let elsewhere : m.zone ≢ n = λ e. lt_irrefl n (omega (arith, k.zone)) in
        rw (ne_eqb m.zone n elsewhere) (a.outside n past);
    each = λ n. at n (eqb m.zone n) refl;
  })
    where
      after-zone : Zone
      after-zone = zone_after m.kind (zone_at d m.zone) m

      there : get_or (set d.zones m.zone after-zone) m.zone no_zone ≡ after-zone
      there =
          get_or-set_same d.zones m.zone after-zone no_zone
          (rw a.eight (omega (arith, k.zone)))

      here :
          Agrees st m.zone (H m.zone then m)
          (get_or (set d.zones m.zone after-zone) m.zone no_zone).work
          (get_or (set d.zones m.zone after-zone) m.zone no_zone).movement
      here =
          let z = zone_at d m.zone in
          let agreed = a.each m.zone in
          rw there (step st m.zone (H m.zone) m z k.rules refl k.checks agreed)

      at : (n : ℕ) (b : Bool) → eqb m.zone n ≡ b
          → Agrees st n (more H m n)
          (get_or (set d.zones m.zone after-zone) n no_zone).work
          (get_or (set d.zones m.zone after-zone) n no_zone).movement
      at n true q =
          let zones = set d.zones m.zone after-zone in
          rw q
          (subst
          (λ (x : ℕ). Agrees st x (H x then m)
          (get_or zones x no_zone).work (get_or zones x no_zone).movement)
          (eqb-true m.zone n q) here)
      at n false q =
          let other : n ≢ m.zone = λ e. eqb-false m.zone n q (sym e) in
          rw (q, get_or-set_other d.zones m.zone n after-zone no_zone other) (a.each n)

  -- agreement does not depend on how the histories are written
  rewritten :
      (d : Desk) (H H' : ℕ → List Message) → ((n : ℕ) → H n ≡ H' n) → AllAgree st d H →
      AllAgree st d H'
  rewritten d H H' same a = record {
    eight = a.eight;
    outside = λ n past. sym (same n) ∙ a.outside n past;
    each = λ n.
        subst (λ (l : List Message). Agrees st n l (zone_at d n).work (zone_at d n).movement)
        (same n) (a.each n);
  }

  -- after a list of hearings every zone agrees with its history
  pub run-agrees :
      (inputs : List Input) (d : Desk) (H : ℕ → List Message) → AllAgree st d H →
      AllAgree st (after ours st d inputs) (λ n. H n ++ of_zone n (accepted ours st d inputs))
  unfolding after accepted of_zone
  run-agrees [] d H a = rewritten d H (λ n. H n ++ []) (λ n. sym (append-nil (H n))) a
  run-agrees (i ∷ inputs) d H a = go (is_accepted ours st d i) refl
      (λ (d' : Desk) (H' : ℕ → List Message) (b : AllAgree st d' H'). run-agrees inputs d' H' b)
    where
      d' : Desk
      d' = (hears st d i).state

      m : Message
      m = message_of i

      joined : (n : ℕ) (b : Bool) (rest : List Message)
          → (cond b (H n then m) (H n) ++ of_zone n rest)
          ≡ (H n ++ cond b (m ∷ of_zone n rest) (of_zone n rest))
      joined n true rest = append_assoc (H n) (m ∷ []) (of_zone n rest)
      joined n false rest = refl

      go : (taken : Bool) → is_accepted ours st d i ≡ taken
          → ((d : Desk) (H : ℕ → List Message) → AllAgree st d H
          → AllAgree st (after ours st d inputs) (λ n. H n ++ of_zone n (accepted ours st d inputs)))
          → AllAgree st (after ours st d' inputs)
          (λ n. H n ++ of_zone n (accepted ours st d (i ∷ inputs)))
      go true p later =
          let taken = hear-accepted st d i (eqb-true (hears st d i).reply.code 0 p) in
          let agreed = taken-agrees d d' H m taken a in
          rewritten (after ours st d' inputs)
          (λ n. more H m n ++ of_zone n (accepted ours st d' inputs))
          (λ n. H n ++ of_zone n (accepted ours st d (i ∷ inputs)))
          (λ n. rw p (joined n (eqb m.zone n) (accepted ours st d' inputs)))
          (later d' (more H m) agreed)
      go false p later =
          rewritten (after ours st d' inputs)
          (λ n. H n ++ of_zone n (accepted ours st d' inputs))
          (λ n. H n ++ of_zone n (accepted ours st d (i ∷ inputs)))
          (λ n. rw p)
          (later d' H (rw (same-state st d i p) a))

  fresh-zone :
      (k n : ℕ) →
      Agrees st n []
      (get_or (replicate k fresh_zone) n no_zone).work
      (get_or (replicate k fresh_zone) n no_zone).movement
  fresh-zone k n = rw ((none k n).0, (none k n).1) (agrees-fresh st n)
    where
      none :
          (k n : ℕ) →
          ((get_or (replicate k fresh_zone) n no_zone).work ≡ NoWork)
          × ((get_or (replicate k fresh_zone) n no_zone).movement ≡ None)
      none zero n = (refl, refl)
      none (suc k) zero = (refl, refl)
      none (suc k) (suc n) = none k n

  -- the fresh desk
  pub fresh-agrees : AllAgree st fresh_desk (λ n. [])
  unfolding fresh_desk
  fresh-agrees = record { eight = refl; outside = λ n past. refl; each = fresh-zone 8 }

  -- striking the refused inputs gives the same desk
  pub same-desk :
      (inputs : List Input) (d : Desk) →
      after ours st d (kept ours st d inputs) ≡ after ours st d inputs
  unfolding after kept
  same-desk [] d = refl
  same-desk (i ∷ inputs) d =
      go (is_accepted ours st d i) refl (same-desk inputs (hears st d i).state)
    where
      go : (taken : Bool) → is_accepted ours st d i ≡ taken
          → after ours st (hears st d i).state (kept ours st (hears st d i).state inputs)
          ≡ after ours st (hears st d i).state inputs
          → after ours st d (kept ours st d (i ∷ inputs)) ≡ after ours st d (i ∷ inputs)
      go true p later = rw p later
      go false p later =
          let same = sym (same-state st d i p) in
          let left = kept ours st (hears st d i).state inputs in
          rw p (ap (λ (x : Desk). after ours st x left) same ∙ later)

  -- and the inputs kept get the same answers
  pub same-answers :
      (inputs : List Input) (d : Desk) →
      answers ours st d (kept ours st d inputs) ≡ kept_answers ours st d inputs
  unfolding answers kept kept_answers
  same-answers [] d = refl
  same-answers (i ∷ inputs) d =
      go (is_accepted ours st d i) refl (same-answers inputs (hears st d i).state)
    where
      go : (taken : Bool) → is_accepted ours st d i ≡ taken
          → answers ours st (hears st d i).state (kept ours st (hears st d i).state inputs)
          ≡ kept_answers ours st (hears st d i).state inputs
          → answers ours st d (kept ours st d (i ∷ inputs)) ≡ kept_answers ours st d (i ∷ inputs)
      go true p later = rw p (ap (λ (l : List Reply). (hears st d i).reply ∷ l) later)
      go false p later =
          let same = sym (same-state st d i p) in
          let left = kept ours st (hears st d i).state inputs in
          rw p (ap (λ (x : Desk). answers ours st x left) same ∙ later)
