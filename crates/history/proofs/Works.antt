-- The work of a zone and the messages of that zone: one more of them, kind by kind. Nothing here
-- knows of movements.
use mathlib.Core.Bool.{Bool, true, false, not, ◌&&◌, ◌||◌, and-true, and-false, or-false, or-true}
use mathlib.Core.Bool.{and_assoc, and_comm, and-eq-true_iff, true≢false}
use mathlib.Core.List.{List}
use mathlib.Core.Path.{◌≡◌, refl, sym, ap, ap₂, ◌∙◌}
use Prim.Native.Nat.{ℕ, ◌<◌}
use native.Mathlib.Omega.{arith}
use borrow.Author.Tests.{ltb-true, eqb-true, not-false}
use lib.Dec.{eqb, ltb}
use Rattle.sets.specs.Sets.{has, single, union, without, within, is_empty, overlaps}
use Rattle.sets.proofs.Membership.{has-zero, has-or, has-without, has-set_of}
use Rattle.sets.proofs.Members.{within-member}
use Rattle.message.specs.declared.Message.{Message}
use Rattle.station.specs.declared.Station.{Station}
use Rattle.station.specs.Station.{turnout_count, zone_of, zone_turnouts}
use Rattle.groups.specs.Groups.{splits}
use Rattle.zone.specs.declared.Work.{Work}
use Rattle.zone.specs.declared.Work.TheVariants.{NoWork, Asked, Agreed}
use Rattle.zone.specs.Work.{has_work, is_agreed, under_form, work_set, agreed_set, open_set, asked_for}
use Rattle.zone.specs.Work.{agreed_from, opened_to, shut_to, restored_of}
use Rattle.rules.specs.Tests.{bad_request, bad_detection}
use Rattle.history.specs.Since.{after_first}
use Rattle.history.specs.History.{ends, agreement, agreed_after, asked_in, under_agreed_work}
use Rattle.history.specs.History.{opened, open_to_work}
use Rattle.history.proofs.Append.{◌then◌}
use Rattle.history.proofs.More.{asking-anew, under-on, open-on, under-agreed, open-agreed}
use Rattle.history.proofs.Moves.{alone}
use Rattle.history.proofs.Agrees.{InZone, WorkAgrees, Works, under-is, nothing-open, is-kind}
use Rattle.history.proofs.Agrees.{neither, NotWork, work-kept, open_kept, no_member}

-- a message that is no 10 and no 11 ends no work
no_end :
    (m : Message) (k : ℕ) → m.kind ≡ k → eqb k 10 ≡ false → eqb k 11 ≡ false → (t : ℕ) →
    ends t m ≡ false
no_end m k e ten eleven t = rw (is-kind m k 10 e, ten, is-kind m k 11 e, eleven)

-- what shutting turnouts leaves of the work
shut-work : (H : List Message) (w : Work) (s : ℕ) → WorkAgrees H w → WorkAgrees H (shut_to w s)
shut-work H NoWork s a = a
shut-work H (Asked q) s a = a
shut-work H (Agreed g) s a = a

shut-set : (w : Work) (s : ℕ) → work_set (shut_to w s) ≡ work_set w
shut-set NoWork s = refl
shut-set (Asked q) s = refl
shut-set (Agreed g) s = refl

pub shut_open :
    (w : Work) (s t : ℕ) → has (open_set (shut_to w s)) t ≡ (has (open_set w) t && not (has s t))
shut_open NoWork s t = rw (has-zero t)
shut_open (Asked q) s t = rw (has-zero t)
shut_open (Agreed g) s t = has-without g.opened s t

pub agreed-in : (w : Work) (t : ℕ) → has (agreed_set w) t ≡ true → has (work_set w) t ≡ true
agreed-in NoWork t h = h
agreed-in (Asked q) t h = absurd (no_member t h)
agreed-in (Agreed g) t h = h

pub left_in : (r s t : ℕ) → has (without s r) t ≡ true → has s t ≡ true
left_in r s t h = ((and-eq-true_iff (has s t) (not (has r t))).0 (sym (has-without s r t) ∙ h)).0

-- the turnouts of a zone are in it
pub in-zone : (st : Station) (n t : ℕ) → has (zone_turnouts st n) t ≡ true → InZone st n t
unfolding zone_turnouts
in-zone st n t e =
    let there = sym (has-set_of (λ k. eqb (zone_of st k) n) (turnout_count st) t (omega arith)) ∙ e in
    let both = (and-eq-true_iff (ltb t (turnout_count st)) (eqb (zone_of st t) n)).0 there in
    record {
      below = ltb-true t (turnout_count st) both.0;
      zone = eqb-true (zone_of st t) n both.1;
    }

module _ (st : Station) (n : ℕ) (H : List Message) (m : Message) where
  -- 1 work asked
  pub step1 :
      (w : Work) → m.kind ≡ 1 → m.zone ≡ n → has_work w ≡ false →
      bad_request st m.zone m.a ≡ false
      → Works st n H w → Works st n (H then m) (asked_for m.id m.d0 m.a)
  unfolding after_first
  step1 w e zone none good a =
      let anew = asking-anew H m (is-kind m 1 1 e) in
      let work : WorkAgrees (H then m) (asked_for m.id m.d0 m.a) =
      (ap agreed_after anew, λ t. ap (asked_in t) anew) in
      let in-it = within m.a (zone_turnouts st m.zone) in
      let first = (neither (is_empty m.a || not in-it) (splits st m.a) good).0 in
      let inside = not-false in-it (neither (is_empty m.a) (not in-it) first).1 in
      record {
        work = work;
        opened =
            nothing-open (H then m)
            (λ t. under-is (H then m) (asked_for m.id m.d0 m.a) work t ∙ has-zero t);
        here = λ t h. in-zone st n t (within-member m.a (zone_turnouts st n) t (rw zone at inside) h);
      }

  -- 2 agreed
  pub step2 : (w : Work) → m.kind ≡ 2 → not (under_form w m.id) ≡ false → is_agreed w ≡ false
      → Works st n H w → Works st n (H then m) (agreed_from w m.time)
  step2 NoWork e none fresh a = absurd (true≢false none)
  step2 (Agreed g) e none fresh a = absurd (true≢false fresh)
  step2 (Asked q) e none fresh a =
      let one = is-kind m 2 1 e in
      let two = is-kind m 2 2 e in
      record {
        work = λ t. under-agreed H m one two a.work.0 t ∙ a.work.1 t;
        opened = λ t. open-agreed H m one two a.work.0 t ∙ sym (has-zero t);
        here = a.here;
      }

  -- nothing is under agreed work any more
  over :
      (w : Work) → ((t : ℕ) → under_agreed_work t (H then m) ≡ false) → Works st n H w →
      Works st n (H then m) NoWork
  over w none a = record {
    work = none;
    opened = nothing-open (H then m) none;
    here = λ t h. absurd (no_member t h);
  }

  -- 3 withdrawn
  pub step3 :
      (w : Work) → m.kind ≡ 3 → is_agreed w ≡ false → Works st n H w →
      Works st n (H then m) NoWork
  step3 w e fresh a =
      let none : (t : ℕ) → under_agreed_work t (H then m) ≡ false =
      λ t. under-on H m (is-kind m 3 1 e) (is-kind m 3 2 e) t
      ∙ rw (under-is H w a.work t, unagreed w fresh, has-zero t) in
      over w none a
    where
      unagreed : (w : Work) → is_agreed w ≡ false → agreed_set w ≡ 0
      unagreed NoWork fresh = refl
      unagreed (Asked q) fresh = refl
      unagreed (Agreed g) fresh = absurd (true≢false fresh)

  -- 11 all restored
  pub step11 : (w : Work) → m.kind ≡ 11 → Works st n H w → Works st n (H then m) NoWork
  step11 w e a =
      let none : (t : ℕ) → under_agreed_work t (H then m) ≡ false =
      λ t. under-on H m (is-kind m 11 1 e) (is-kind m 11 2 e) t
      ∙ rw (is-kind m 11 11 e, is-kind m 11 10 e) (and-false (under_agreed_work t H)) in
      over w none a

  -- what was open, by the two parts of the history's rule
  was-open :
      {w : Work} → Works st n H w → (t : ℕ) →
      (under_agreed_work t H && opened t (agreement H)) ≡ has (open_set w) t
  unfolding open_to_work
  was-open a t = a.opened t

  -- 4 detection off
  pub step4 :
      (w : Work) → m.kind ≡ 4 → bad_detection (work_set w) m.a m.b ≡ false →
      not (is_agreed w) ≡ false
      → Works st n H w → Works st n (H then m) (opened_to w (union m.a m.b))
  step4 NoWork e good agreed a = absurd (true≢false agreed)
  step4 (Asked q) e good agreed a = absurd (true≢false agreed)
  step4 (Agreed g) e good agreed a =
      let one = is-kind m 4 1 e in
      let two = is-kind m 4 2 e in
      let s = union m.a m.b in
      let in-work = within s g.set in
      let bounded = (neither (is_empty s || overlaps m.a m.b) (not in-work) good).1 in
      let inside = not-false in-work bounded in
      record {
        work = λ t. work-kept H m (Agreed g) one two (no_end m 4 e refl refl) a.work t;
        opened = λ t. open-on H m one two t
            ∙ rw (
              no_end m 4 e refl refl t,
              is-kind m 4 4 e,
              is-kind m 4 6 e,
              and-true (under_agreed_work t H),
              and-true (opened t (agreement H)),
            )
            (added (under_agreed_work t H) (opened t (agreement H)) (has m.a t || has m.b t)
            (λ h. a.work t ∙ within-member s g.set t inside (has-or m.a m.b t ∙ h))
            ∙ ap₂ (λ (o b : Bool). o || b) (was-open a t) (sym (has-or m.a m.b t))
            ∙ sym (has-or g.opened s t));
        here = a.here;
      }
    where
      added : (u o b : Bool) → (b ≡ true → u ≡ true) → (u && (b || o)) ≡ (u && o || b)
      added u o true under = rw (under refl) (sym (or-true o))
      added u o false under = sym (or-false (u && o))

  -- 10 part restored
  pub step10 :
      (w : Work) → m.kind ≡ 10 → not (is_agreed w) ≡ false → Works st n H w →
      Works st n (H then m) (restored_of w m.a)
  step10 NoWork e agreed a = absurd (true≢false agreed)
  step10 (Asked q) e agreed a = absurd (true≢false agreed)
  step10 (Agreed g) e agreed a =
      let one = is-kind m 10 1 e in
      let two = is-kind m 10 2 e in
      record {
        work =
            λ t. under-on H m one two t ∙ rw (
              restored t,
              a.work t,
            ) (sym (has-without g.set m.a t));
        opened = λ t. open-on H m one two t
            ∙ rw (restored t, is-kind m 10 4 e, is-kind m 10 6 e, and-true (opened t (agreement H)))
            (and_assoc (under_agreed_work t H) (not (has m.a t)) (opened t (agreement H))
            ∙ ap (λ (b : Bool). under_agreed_work t H && b)
            (and_comm (not (has m.a t)) (opened t (agreement H)))
            ∙ sym (and_assoc (under_agreed_work t H) (opened t (agreement H)) (not (has m.a t)))
            ∙ ap (λ (b : Bool). b && not (has m.a t)) (was-open a t)
            ∙ sym (has-without g.opened m.a t));
        here = λ t h. a.here t (left_in m.a g.set t h);
      }
    where
      restored : (t : ℕ) → ends t m ≡ has m.a t
      restored t = rw (is-kind m 10 10 e, is-kind m 10 11 e) (or-false (has m.a t))

  -- a message that leaves the work alone
  pub kept : (w : Work) → NotWork m → Works st n H w → Works st n (H then m) w
  kept w c a = record {
    work = work-kept H m w c.one c.two (λ t. rw (c.ten, c.eleven)) a.work;
    opened = λ t. open_kept H m c t ∙ a.opened t;
    here = a.here;
  }

  -- 6 clearance: shut to work
  pub step6 :
      (w : Work) → m.kind ≡ 6 → m.d0 < 64 → Works st n H w →
      Works st n (H then m) (shut_to w (single m.d0))
  step6 w e below a =
      let one = is-kind m 6 1 e in
      let two = is-kind m 6 2 e in
      let s = single m.d0 in
      record {
        work =
            shut-work (H then m) w s (work-kept H m w one two (no_end m 6 e refl refl) a.work);
        opened = λ t. open-on H m one two t
            ∙ rw (
              no_end m 6 e refl refl t,
              is-kind m 6 4 e,
              is-kind m 6 6 e,
              and-true (under_agreed_work t H),
            )
            (sym (and_assoc (under_agreed_work t H) (opened t (agreement H)) (not (eqb m.d0 t)))
            ∙ ap₂ (λ (o b : Bool). o && not b) (was-open a t) (sym (alone m.d0 t below))
            ∙ sym (shut_open w s t));
        here = λ t h. a.here t (rw (shut-set w s) at h);
      }
