-- One more accepted message: the zone still agrees with its history, kind by kind.
use mathlib.Core.Bool.{Bool, true, false, not, ◌||◌, or-false, and-eq-true_iff, true≢false}
use mathlib.Core.List.{List}
use mathlib.Core.Path.{◌≡◌, refl, sym, ◌∙◌}
use Prim.Native.Nat.{ℕ, ◌<◌}
use borrow.Author.Tests.{eqb-true, not-true, not-false}
use Rattle.sets.specs.Sets.{has, single, union, overlaps}
use Rattle.sets.proofs.Membership.{has-and, has-or}
use Rattle.sets.proofs.Members.{disjoint-member}
use Rattle.message.specs.declared.Message.{Message}
use Rattle.station.specs.declared.Station.{Station}
use Rattle.zone.specs.declared.Work.{Work}
use Rattle.zone.specs.declared.Work.TheVariants.{NoWork, Asked, Agreed}
use Rattle.zone.specs.Movement.{Movement, under_train, cleared_set, named_turnouts, worked_turnouts, route_for}
use Rattle.std.specs.Prelude.{None, Some}
use Rattle.zone.specs.Work.{has_work, is_agreed, under_form, work_set, agreed_set, open_set, asked_for}
use Rattle.zone.specs.Work.{agreed_from, opened_to, shut_to, restored_of}
use Rattle.zone.specs.Movement.{movement_for, cleared_at, keyed_at, ordered_as}
use Rattle.rules.specs.Clearance.{is_efficient, clearance_fits}
use Rattle.rules.specs.Tests.{bad_request, bad_detection}
use Rattle.history.proofs.Append.{◌then◌}
use Rattle.history.proofs.Works as works
use Rattle.history.proofs.Works.{shut_open, agreed-in, left_in}
use Rattle.history.proofs.Moves.{alone, asked-agrees, left-agrees, ordered-agrees, cleared-agrees, keyed-agrees}
use Rattle.history.proofs.Agrees.{InZone, MovementAgrees, Works, Agrees, is-kind, NotWork}
use Rattle.history.proofs.Agrees.{not-work, NotMovement, not-movement, movement-kept, no_member}

-- what is open after a kind of work was open, or is opened by it
unopened :
    (w : Work) (time t : ℕ) → is_agreed w ≡ false → has (open_set (agreed_from w time)) t ≡ true → ⊥
unopened NoWork time t fresh h = no_member t h
unopened (Asked q) time t fresh h = no_member t h
unopened (Agreed g) time t fresh h = true≢false fresh

opened-more :
    (w : Work) (s t : ℕ) → has (open_set (opened_to w s)) t ≡ true →
    (has (open_set w) t || has s t) ≡ true
opened-more NoWork s t h = absurd (no_member t h)
opened-more (Asked q) s t h = absurd (no_member t h)
opened-more (Agreed g) s t h = sym (has-or g.opened s t) ∙ h

opened-fewer :
    (w : Work) (s t : ℕ) → has (open_set (restored_of w s)) t ≡ true → has (open_set w) t ≡ true
opened-fewer NoWork s t h = h
opened-fewer (Asked q) s t h = h
opened-fewer (Agreed g) s t h = left_in s g.opened t h

-- what a clearance leaves of the movement
cleared_more :
    (v : Movement) (n : ℕ) (b : Bool) (t : ℕ) → has (cleared_set (cleared_at v n b)) t ≡ true →
    (has (cleared_set v) t || has (single n) t) ≡ true
cleared_more None n b t h = absurd (no_member t h)
cleared_more (Some p) n b t h = sym (has-or p.cleared (single n) t) ∙ h

same-cleared :
    (t : ℕ) (v : Movement) (order : ℕ) → has (cleared_set (ordered_as v order)) t ≡ true →
    has (cleared_set v) t ≡ true
same-cleared t None order h = h
same-cleared t (Some p) order h = h

-- a key clears nothing
keyed-cleared :
    (t : ℕ) (v : Movement) (n : ℕ) → has (cleared_set (keyed_at v n)) t ≡ true →
    has (cleared_set v) t ≡ true
keyed-cleared t None n h = h
keyed-cleared t (Some p) n h = h

module _ (st : Station) (n : ℕ) (H : List Message) (m : Message) where
  -- a message of work: the movement stays, and what is open now is not cleared for it
  at-work : {w : Work} (w' : Work) (v : Movement) → NotMovement m → Works st n (H then m) w'
      → ((t : ℕ) → has (open_set w') t ≡ true → has (cleared_set v) t ≡ true → ⊥)
      → Agrees st n H w v → Agrees st n (H then m) w' v
  at-work w' v calm works apart a = record {
    works = works;
    movement = movement-kept st H m v calm a.movement;
    apart = apart;
    cleared-here = a.cleared-here;
  }

  -- a message of the movement: the work stays, and nothing is cleared that was not
  at-movement :
      (w : Work) {v : Movement} (v' : Movement) → NotWork m → MovementAgrees st (H then m) v'
      → ((t : ℕ) → has (cleared_set v') t ≡ true → has (cleared_set v) t ≡ true)
      → Agrees st n H w v → Agrees st n (H then m) w v'
  at-movement w v' calm movement fewer a = record {
    works = works.kept st n H m w calm a.works;
    movement = movement;
    apart = λ t h k. a.apart t h (fewer t k);
    cleared-here = λ t k. a.cleared-here t (fewer t k);
  }

  pub step1 :
      (w : Work) (v : Movement) → m.kind ≡ 1 → m.zone ≡ n → has_work w ≡ false →
      bad_request st m.zone m.a ≡ false
      → Agrees st n H w v → Agrees st n (H then m) (asked_for m.id m.d0 m.a) v
  step1 w v e zone none good a =
      let calm = not-movement m 1 e refl in
      let worked = works.step1 st n H m w e zone none good a.works in
      at-work (asked_for m.id m.d0 m.a) v calm worked (λ t h c. no_member t h) a

  pub step2 :
      (w : Work) (v : Movement) → m.kind ≡ 2 → not (under_form w m.id) ≡ false →
      is_agreed w ≡ false
      → Agrees st n H w v → Agrees st n (H then m) (agreed_from w m.time) v
  step2 w v e none fresh a =
      let calm = not-movement m 2 e refl in
      let worked = works.step2 st n H m w e none fresh a.works in
      at-work (agreed_from w m.time) v calm worked
      (λ t h c. unopened w m.time t fresh h) a

  pub step3 :
      (w : Work) (v : Movement) → m.kind ≡ 3 → is_agreed w ≡ false → Agrees st n H w v →
      Agrees st n (H then m) NoWork v
  step3 w v e fresh a =
      let calm = not-movement m 3 e refl in
      let worked = works.step3 st n H m w e fresh a.works in
      at-work NoWork v calm worked (λ t h c. no_member t h) a

  pub step11 :
      (w : Work) (v : Movement) → m.kind ≡ 11 → Agrees st n H w v →
      Agrees st n (H then m) NoWork v
  step11 w v e a =
      let calm = not-movement m 11 e refl in
      let worked = works.step11 st n H m w e a.works in
      at-work NoWork v calm worked (λ t h c. no_member t h) a

  pub step4 :
      (w : Work) (v : Movement) → m.kind ≡ 4 → bad_detection (work_set w) m.a m.b ≡ false →
      not (is_agreed w) ≡ false
      → overlaps (cleared_set v) (union m.a m.b) ≡ false → Agrees st n H w v
      → Agrees st n (H then m) (opened_to w (union m.a m.b)) v
  step4 w v e good agreed clear a =
      let s = union m.a m.b in
      let calm = not-movement m 4 e refl in
      let worked = works.step4 st n H m w e good agreed a.works in
      at-work (opened_to w s) v calm worked
      (λ t h c. still-apart t c (has (open_set w) t) refl (opened-more w s t h)) a
    where
      still-apart : (t : ℕ) → has (cleared_set v) t ≡ true → (old : Bool) → has (open_set w) t ≡ old
          → (has (open_set w) t || has (union m.a m.b) t) ≡ true → ⊥
      still-apart t c true o h = a.apart t o c
      still-apart t c false o h =
          let other = disjoint-member (cleared_set v) (union m.a m.b) t clear c in
          true≢false (sym (rw o at h) ∙ other)

  pub step10 :
      (w : Work) (v : Movement) → m.kind ≡ 10 → not (is_agreed w) ≡ false → Agrees st n H w v →
      Agrees st n (H then m) (restored_of w m.a) v
  step10 w v e agreed a =
      let calm = not-movement m 10 e refl in
      let worked = works.step10 st n H m w e agreed a.works in
      at-work (restored_of w m.a) v calm worked
      (λ t h c. a.apart t (opened-fewer w m.a t h) c) a

  pub step12 :
      (w : Work) (v : Movement) → m.kind ≡ 12 → Agrees st n H w v → Agrees st n (H then m) w v
  step12 w v e a =
      let worked = works.kept st n H m w (not-work m 12 e refl) a.works in
      at-work w v (not-movement m 12 e refl) worked a.apart a

  pub step5 :
      (w : Work) (v : Movement) → m.kind ≡ 5 → Agrees st n H w v →
      Agrees st n (H then m) w (movement_for m.id m.d0)
  step5 w v e =
      let calm = not-work m 5 e refl in
      let asked = asked-agrees st H m e in
      at-movement w (movement_for m.id m.d0) calm asked (λ t h. absurd (no_member t h))

  pub step7 :
      (w : Work) (v : Movement) → m.kind ≡ 7 → Agrees st n H w v →
      Agrees st n (H then m) w (ordered_as v m.d0)
  step7 w v e a =
      let calm = not-work m 7 e refl in
      let ordered = ordered-agrees st H m v e a.movement in
      at-movement w (ordered_as v m.d0) calm ordered (λ t h. same-cleared t v m.d0 h) a

  pub step13 :
      (w : Work) (v : Movement) → m.kind ≡ 13 → m.d0 < 64 → under_train v m.id ≡ true
      → Agrees st n H w v → Agrees st n (H then m) w (keyed_at v m.d0)
  step13 w v e below train a =
      let calm = not-work m 13 e refl in
      let keyed = keyed-agrees st H m v e below train a.movement in
      at-movement w (keyed_at v m.d0) calm keyed (λ t h. keyed-cleared t v m.d0 h) a

  pub step8 :
      (w : Work) (v : Movement) → m.kind ≡ 8 → Agrees st n H w v →
      Agrees st n (H then m) w None
  step8 w v e =
      let calm = not-work m 8 e refl in
      let left = left-agrees st H m (is-kind m 8 5 e) (rw (is-kind m 8 8 e)) in
      at-movement w None calm left (λ t h. absurd (no_member t h))

  pub step9 :
      (w : Work) (v : Movement) → m.kind ≡ 9 → Agrees st n H w v →
      Agrees st n (H then m) w None
  step9 w v e =
      let calm = not-work m 9 e refl in
      let left =
      left-agrees st H m (is-kind m 9 5 e) (rw (is-kind m 9 8 e, is-kind m 9 9 e)) in
      at-movement w None calm left (λ t h. absurd (no_member t h))

  pub step6 : (w : Work) (v : Movement) → m.kind ≡ 6 → m.d0 < 64 → under_train v m.id ≡ true
      → not (has (worked_turnouts (route_for st v) w) m.d0) ≡ false
      → not (clearance_fits st (route_for st v) m) ≡ false
      → Agrees st n H w v
      → Agrees st n (H then m)
      (shut_to w (single m.d0)) (cleared_at v m.d0 (is_efficient m.d1))
  step6 w v e below train worked fits a = record {
    works = works.step6 st n H m w e below a.works;
    movement = cleared-agrees st H m v e below train fits a.movement;
    apart = λ t h c.
        let left = sym (shut_open w s t) ∙ h in
        let both = (and-eq-true_iff (has (open_set w) t) (not (has s t))).0 left in
        let more = cleared_more v m.d0 (is_efficient m.d1) t c in
        still-apart t both (has s t) refl more;
    cleared-here =
        λ t c. now-here t (has s t) refl (cleared_more v m.d0 (is_efficient m.d1) t c);
  }
    where
      s : ℕ
      s = single m.d0

      still-apart :
          (t : ℕ) → (has (open_set w) t ≡ true) × (not (has (single m.d0) t) ≡ true) →
          (b : Bool) → has (single m.d0) t ≡ b
          → (has (cleared_set v) t || has (single m.d0) t) ≡ true → ⊥
      still-apart t o true q c = true≢false (sym q ∙ not-true (has (single m.d0) t) o.1)
      still-apart t o false q c =
          a.apart t o.0 (sym (or-false (has (cleared_set v) t)) ∙ rw q at c)

      now-here :
          (t : ℕ) (b : Bool) → has (single m.d0) t ≡ b →
          (has (cleared_set v) t || has (single m.d0) t) ≡ true → InZone st n t
      now-here t true q c =
          let same : m.d0 ≡ t = eqb-true m.d0 t (sym (alone m.d0 t below) ∙ q) in
          let on-work = not-false (has (worked_turnouts (route_for st v) w) m.d0) worked in
          let both =
          (and-eq-true_iff (has (named_turnouts st v) m.d0) (has (agreed_set w) m.d0)).0
          (sym (has-and (named_turnouts st v) (agreed_set w) m.d0) ∙ on-work) in
          a.works.here t (rw same at (agreed-in w m.d0 both.1))
      now-here t false q c = a.cleared-here t (sym (or-false (has (cleared_set v) t)) ∙ rw q at c)
