-- The exact relation between a zone's state and its history: work, what is open, the movement, what
-- is cleared, each as the history (HIST-2 to HIST-8 of docs/RULES.md) has it. A public law: the
-- theorem, and later ones on zones and journals, stand on it.
use mathlib.Core.Bool.{Bool, true, false, ◌||◌, and-true, and-false, true≢false}
use mathlib.Core.List.{List, []}
use mathlib.Core.Path.{◌≡◌, refl, sym, ap, ◌∙◌}
use Prim.Native.Nat.{ℕ, ◌<◌}
use lib.Dec.{eqb}
use Rattle.sets.specs.Sets.{has}
use Rattle.sets.proofs.Membership.{has-zero}
use Rattle.message.specs.declared.Message.{Message}
use Rattle.station.specs.declared.Station.{Station}
use Rattle.station.specs.Station.{turnout_count, zone_of}
use Rattle.zone.specs.declared.Work.{Work}
use Rattle.zone.specs.declared.Work.TheVariants.{NoWork, Asked, Agreed}
use Rattle.zone.specs.declared.Passage.{Passage}
use Rattle.zone.specs.Movement.{Movement, cleared_set}
use Rattle.std.specs.Prelude.{None, Some}
use Rattle.zone.specs.Work.{work_set, agreed_set, open_set}
use Rattle.history.specs.Since.{Since, never, since, after_last, any}
use Rattle.history.specs.History.{is, clears, ends, leaves, asking, agreement, asked_in}
use Rattle.history.specs.History.{under_agreed_work, opened, open_to_work, standing, clears_well, key_for}
use Rattle.history.proofs.Append.{◌then◌, extend, any-kept}
use Rattle.history.proofs.More.{asking-on, asked_in-on, agreement-on, under-on, open-on, standing_on}

-- a turnout of the station, in zone n
pub record InZone (st : Station) (n t : ℕ) : Type 0 where
  pub below : t < turnout_count st
  pub zone : zone_of st t ≡ n

-- the work is as the history has it
abbrev pub WorkAgrees : List Message → Work → Type 0
WorkAgrees H NoWork = (t : ℕ) → under_agreed_work t H ≡ false
WorkAgrees H (Asked q) = (agreement H ≡ never) × ((t : ℕ) → asked_in t (asking H) ≡ has q.set t)
WorkAgrees H (Agreed g) = (t : ℕ) → under_agreed_work t H ≡ has g.set t

-- a standing movement is as the history has it
pub record Stands (st : Station) (H : List Message) (p : Passage) : Type 0 where
  pub asked : Message
  pub rest : List Message
  pub stands : standing H ≡ since asked rest
  pub train : asked.id ≡ p.train
  pub route : asked.d0 ≡ p.route
  pub cleared : (t : ℕ) → any (clears t) rest ≡ has p.cleared t
  pub efficient : (t : ℕ) → any (clears_well st asked t) rest ≡ has p.efficient t
  pub keys : (t : ℕ) → any (key_for asked t) rest ≡ has p.keys t

abbrev pub MovementAgrees : Station → List Message → Movement → Type 0
MovementAgrees st H None = standing H ≡ never
MovementAgrees st H (Some p) = Stands st H p

-- the work w of zone n, and what is open of it, after the accepted messages H
pub record Works (st : Station) (n : ℕ) (H : List Message) (w : Work) : Type 0 where
  pub work : WorkAgrees H w
  pub opened : (t : ℕ) → open_to_work t H ≡ has (open_set w) t
  pub here : (t : ℕ) → has (work_set w) t ≡ true → InZone st n t

-- zone n, with the work w and the movement v, after the accepted messages H
pub record Agrees (st : Station) (n : ℕ) (H : List Message) (w : Work) (v : Movement) : Type 0 where
  pub works : Works st n H w
  pub movement : MovementAgrees st H v
  pub apart : (t : ℕ) → has (open_set w) t ≡ true → has (cleared_set v) t ≡ true → ⊥
  pub cleared-here : (t : ℕ) → has (cleared_set v) t ≡ true → InZone st n t

pub under-is :
    (H : List Message) (w : Work) → WorkAgrees H w → (t : ℕ) →
    under_agreed_work t H ≡ has (agreed_set w) t
unfolding under_agreed_work
under-is H NoWork a t = a t ∙ sym (has-zero t)
under-is H (Asked q) a t = rw a.0 (and-false (asked_in t (asking H)) ∙ sym (has-zero t))
under-is H (Agreed g) a t = a t

-- where nothing is under agreed work, nothing is open
pub nothing-open :
    (H : List Message) → ((t : ℕ) → under_agreed_work t H ≡ false) → (t : ℕ) →
    open_to_work t H ≡ has 0 t
unfolding open_to_work
nothing-open H none t = rw (none t) (sym (has-zero t))

-- a message of kind k is one of kind j where k is j
pub is-kind : (m : Message) (k j : ℕ) → m.kind ≡ k → is j m ≡ eqb k j
is-kind m k j e = ap (λ (x : ℕ). eqb x j) e

-- two tests of which neither holds
pub neither : (a b : Bool) → (a || b) ≡ false → (a ≡ false) × (b ≡ false)
neither false b e = (refl, e)
neither true b e = absurd (true≢false e)

-- the kinds that the history's words on work look at
abbrev pub touches_work : ℕ → Bool
touches_work k = eqb k 1 || eqb k 2 || eqb k 4 || eqb k 6 || eqb k 10 || eqb k 11

-- a message that does nothing to the work
pub record NotWork (m : Message) : Type 0 where
  pub one : is 1 m ≡ false
  pub two : is 2 m ≡ false
  pub four : is 4 m ≡ false
  pub six : is 6 m ≡ false
  pub ten : is 10 m ≡ false
  pub eleven : is 11 m ≡ false

pub not-work : (m : Message) (k : ℕ) → m.kind ≡ k → touches_work k ≡ false → NotWork m
not-work m k e calm =
    let to-10 = neither (eqb k 1 || eqb k 2 || eqb k 4 || eqb k 6 || eqb k 10) (eqb k 11) calm in
    let to-6 = neither (eqb k 1 || eqb k 2 || eqb k 4 || eqb k 6) (eqb k 10) to-10.0 in
    let to-4 = neither (eqb k 1 || eqb k 2 || eqb k 4) (eqb k 6) to-6.0 in
    let to-2 = neither (eqb k 1 || eqb k 2) (eqb k 4) to-4.0 in
    let first = neither (eqb k 1) (eqb k 2) to-2.0 in
    record {
      one = is-kind m k 1 e ∙ first.0;
      two = is-kind m k 2 e ∙ first.1;
      four = is-kind m k 4 e ∙ to-2.1;
      six = is-kind m k 6 e ∙ to-4.1;
      ten = is-kind m k 10 e ∙ to-6.1;
      eleven = is-kind m k 11 e ∙ to-10.1;
    }

pub work-kept :
    (H : List Message) (m : Message) (w : Work) → is 1 m ≡ false → is 2 m ≡ false →
    ((t : ℕ) → ends t m ≡ false) → WorkAgrees H w → WorkAgrees (H then m) w
work-kept H m NoWork one two none a = λ t. under-on H m one two t ∙ rw (a t)
work-kept H m (Asked q) one two none a = (
  agreement-on H m one two ∙ ap (λ (s : Since). extend s m) a.0,
  λ t. ap (asked_in t) (asking-on H m one) ∙ asked_in-on H m t (asking H) ∙ a.1 t,
)
work-kept H m (Agreed g) one two none a =
    λ t. under-on H m one two t ∙ rw (none t, and-true (under_agreed_work t H)) (a t)

pub open_kept :
    (H : List Message) (m : Message) → NotWork m → (t : ℕ) →
    open_to_work t (H then m) ≡ open_to_work t H
unfolding open_to_work
open_kept H m c t =
    open-on H m c.one c.two t
    ∙ rw (
      c.ten,
      c.eleven,
      c.four,
      c.six,
      and-true (under_agreed_work t H),
      and-true (opened t (agreement H)),
    )

-- the kinds that the history's words on movements look at
abbrev pub touches_movement : ℕ → Bool
touches_movement k = eqb k 5 || eqb k 6 || eqb k 8 || eqb k 9 || eqb k 13

-- a message that does nothing to the movement
pub record NotMovement (m : Message) : Type 0 where
  pub five : is 5 m ≡ false
  pub six : is 6 m ≡ false
  pub eight : is 8 m ≡ false
  pub nine : is 9 m ≡ false
  pub thirteen : is 13 m ≡ false

pub not-movement : (m : Message) (k : ℕ) → m.kind ≡ k → touches_movement k ≡ false → NotMovement m
not-movement m k e calm =
    let to-9 = neither (eqb k 5 || eqb k 6 || eqb k 8 || eqb k 9) (eqb k 13) calm in
    let to-8 = neither (eqb k 5 || eqb k 6 || eqb k 8) (eqb k 9) to-9.0 in
    let to-6 = neither (eqb k 5 || eqb k 6) (eqb k 8) to-8.0 in
    let first = neither (eqb k 5) (eqb k 6) to-6.0 in
    record {
      five = is-kind m k 5 e ∙ first.0;
      six = is-kind m k 6 e ∙ first.1;
      eight = is-kind m k 8 e ∙ to-6.1;
      nine = is-kind m k 9 e ∙ to-8.1;
      thirteen = is-kind m k 13 e ∙ to-9.1;
    }

stays : (m : Message) → NotMovement m → leaves m ≡ false
stays m c = rw (c.eight, c.nine)

pub movement-kept :
    (st : Station) (H : List Message) (m : Message) (v : Movement) → NotMovement m →
    MovementAgrees st H v → MovementAgrees st (H then m) v
movement-kept st H m None c a =
    standing_on H m c.five (stays m c) ∙ ap (λ (s : Since). extend s m) a
movement-kept st H m (Some p) c a = record {
  asked = a.asked;
  rest = a.rest then m;
  stands = standing_on H m c.five (stays m c) ∙ ap (λ (s : Since). extend s m) a.stands;
  train = a.train;
  route = a.route;
  cleared = λ t. any-kept (clears t) a.rest m (rw c.six) ∙ a.cleared t;
  efficient =
      λ t. any-kept (clears_well st a.asked t) a.rest m (rw c.six) ∙ a.efficient t;
  keys = λ t. any-kept (key_for a.asked t) a.rest m (rw c.thirteen) ∙ a.keys t;
}

pub no_member : (t : ℕ) → has 0 t ≡ true → ⊥
no_member t e = true≢false (sym e ∙ has-zero t)

-- a zone of which nothing was heard yet
pub agrees-fresh : (st : Station) (n : ℕ) → Agrees st n [] NoWork None
unfolding under_agreed_work open_to_work standing after_last
agrees-fresh st n = record {
  works = record {
    work = λ t. refl;
    opened = λ t. sym (has-zero t);
    here = λ t e. absurd (no_member t e);
  };
  movement = refl;
  apart = λ t e c. no_member t e;
  cleared-here = λ t e. absurd (no_member t e);
}
