-- One train's movement and the messages of that train: one more of them, kind by kind. Nothing here
-- knows of other trains or of work.
use mathlib.Core.Bool.{Bool, true, false, cond, not, ◌&&◌, ◌||◌, and-true, and-false, true≢false}
use mathlib.Core.List.{List, []}
use mathlib.Core.Path.{◌≡◌, refl, sym, ap, ap₂, subst, ◌∙◌}
use Prim.Native.Nat.{ℕ, ◌<◌}
use borrow.Author.Tests.{eqb-true, eqb-false, eq-eqb, ne_eqb, lt-ltb, not-false}
use lib.Dec.{eqb}
use Rattle.sets.specs.Sets.{has, single}
use Rattle.sets.proofs.Membership.{has-zero, has-or, has-single}
use Rattle.message.specs.declared.Message.{Message}
use Rattle.station.specs.declared.Station.{Station}
use Rattle.station.specs.declared.Route.{Route}
use Rattle.station.specs.Station.{the_route}
use Rattle.groups.specs.Groups.{grouped}
use Rattle.zone.specs.Movement.{Movement, under_train, route_for, movement_for, cleared_at, keyed_at, ordered_as}
use Rattle.std.specs.Prelude.{None, Some}
use Rattle.zone.specs.declared.Passage.{Passage}
use Rattle.rules.specs.Clearance.{is_efficient, clearance_fits}
use Rattle.rules.proofs.Fits.{fits-position, fits-group, covers-group}
use Rattle.history.specs.Since.{Since, since, any}
use Rattle.history.specs.History.{is, clears, leaves, standing, all_efficient, clears_well, key_for}
use Rattle.history.proofs.Append.{◌then◌, extend, any-more, any-kept}
use Rattle.history.proofs.More.{standing-asked, standing-left, standing_on}
use Rattle.history.proofs.Agrees.{Stands, MovementAgrees, is-kind, not-movement, movement-kept}

eqb-sym : (x y : ℕ) → eqb x y ≡ eqb y x
eqb-sym x y = go (eqb x y) refl
  where
    go : (b : Bool) → eqb x y ≡ b → eqb x y ≡ eqb y x
    go true q = q ∙ sym (eq-eqb y x (sym (eqb-true x y q)))
    go false q = q ∙ sym (ne_eqb y x (λ (e : y ≡ x). eqb-false x y q (sym e)))

-- the set of a turnout below 64
pub alone : (n t : ℕ) → n < 64 → has (single n) t ≡ eqb n t
alone n t below = has-single n t ∙ rw (lt-ltb n 64 below) (eqb-sym t n)

-- a clearance that fits is all efficient in the history exactly when its declaration is 1 or 2, by
-- which the desk goes
efficient-alike :
    (st : Station) (r : Route) (m : Message) → clearance_fits st r m ≡ true →
    all_efficient st m.d0 m ≡ is_efficient m.d1
efficient-alike st r m fits =
    go (is_efficient m.d1) refl (grouped st m.d0) refl
  where
    go :
        (efficient : Bool) → is_efficient m.d1 ≡ efficient →
        (is_grouped : Bool) → grouped st m.d0 ≡ is_grouped →
        all_efficient st m.d0 m ≡ efficient
    go true e true p =
        let covers = fits-group st r m fits in
        rw (e, p, covers-group m.d1 (grouped st m.d0) m.d5 covers e p)
    go true e false p = rw (e, p)
    go false e is_grouped p = rw e

module _ (st : Station) (L : List Message) (m : Message) where
  -- 5
  pub asked-agrees : m.kind ≡ 5 → MovementAgrees st (L then m) (movement_for m.id m.d0)
  unfolding any
  asked-agrees e = record {
    asked = m;
    rest = [];
    stands = standing-asked L m (is-kind m 5 5 e);
    train = refl;
    route = refl;
    cleared = λ t. sym (has-zero t);
    efficient = λ t. sym (has-zero t);
    keys = λ t. sym (has-zero t);
  }

  -- 8, 9
  pub left-agrees : is 5 m ≡ false → leaves m ≡ true → MovementAgrees st (L then m) None
  left-agrees five away = standing-left L m five away

  -- 7
  pub ordered-agrees :
      (v : Movement) → m.kind ≡ 7 → MovementAgrees st L v →
      MovementAgrees st (L then m) (ordered_as v m.d0)
  ordered-agrees v e a = ordered v (movement-kept st L m v (not-movement m 7 e refl) a)
    where
      ordered :
          (v : Movement) → MovementAgrees st (L then m) v →
          MovementAgrees st (L then m) (ordered_as v m.d0)
      ordered None a = a
      ordered (Some p) a = record {
        asked = a.asked;
        rest = a.rest;
        stands = a.stands;
        train = a.train;
        route = a.route;
        cleared = a.cleared;
        efficient = a.efficient;
        keys = a.keys;
      }

  -- 6, 13: the movement that stands stays, and the message is of its train
  still-stands :
      (k : ℕ) {p : Passage} → m.kind ≡ k → eqb k 5 ≡ false → (eqb k 8 || eqb k 9) ≡ false →
      (a : Stands st L p) → standing (L then m) ≡ since a.asked (a.rest then m)
  still-stands k e five leaves a =
      standing_on L m (is-kind m k 5 e ∙ five) (rw (is-kind m k 8 e, is-kind m k 9 e) leaves)
      ∙ ap (λ (x : Since). extend x m) a.stands

  of-its-train :
      {p : Passage} (a : Stands st L p) → under_train (Some p) m.id ≡ true →
      m.id ≡ a.asked.id
  of-its-train {p = p} a train = sym (a.train ∙ eqb-true p.train m.id train)

  -- 13
  pub keyed-agrees :
      (v : Movement) → m.kind ≡ 13 → m.d0 < 64 → under_train v m.id ≡ true
      → MovementAgrees st L v → MovementAgrees st (L then m) (keyed_at v m.d0)
  keyed-agrees None e below train a = absurd (true≢false (sym train))
  keyed-agrees (Some p) e below train a = record {
    asked = a.asked;
    rest = a.rest then m;
    stands = still-stands 13 e refl refl a;
    train = a.train;
    route = a.route;
    cleared = λ t. any-kept (clears t) a.rest m (rw (is-kind m 13 6 e)) ∙ a.cleared t;
    efficient =
        λ t. any-kept (clears_well st a.asked t) a.rest m (rw (is-kind m 13 6 e))
        ∙ a.efficient t;
    keys = λ t. any-more (key_for a.asked t) a.rest m
        ∙ ap₂ (λ (o b : Bool). o || b) (a.keys t) (keyed-alone t)
        ∙ sym (has-or p.keys (single m.d0) t);
  }
    where
      keyed-alone : (t : ℕ) → key_for a.asked t m ≡ has (single m.d0) t
      keyed-alone t =
          rw (is-kind m 13 13 e, eq-eqb m.id a.asked.id (of-its-train a train))
          (and-true (eqb m.d0 t) ∙ sym (alone m.d0 t below))

  -- 6
  pub cleared-agrees :
      (v : Movement) → m.kind ≡ 6 → m.d0 < 64 → under_train v m.id ≡ true →
      not (clearance_fits st (route_for st v) m) ≡ false
      → MovementAgrees st L v
      → MovementAgrees st (L then m) (cleared_at v m.d0 (is_efficient m.d1))
  cleared-agrees None e below train fits a = absurd (true≢false (sym train))
  cleared-agrees (Some p) e below train fits a = record {
    asked = a.asked;
    rest = a.rest then m;
    stands = still-stands 6 e refl refl a;
    train = a.train;
    route = a.route;
    cleared = λ t. any-more (clears t) a.rest m
        ∙ ap₂ (λ (o b : Bool). o || b) (a.cleared t) (clears-alone t)
        ∙ sym (has-or p.cleared (single m.d0) t);
    efficient = λ t. any-more (clears_well st a.asked t) a.rest m
        ∙ ap₂ (λ (o b : Bool). o || b) (a.efficient t) (well t (eqb m.d0 t) refl)
        ∙ sym (has-or p.efficient (cond (is_efficient m.d1) (single m.d0) 0) t);
    keys =
        λ t. any-kept (key_for a.asked t) a.rest m (rw (is-kind m 6 13 e)) ∙ a.keys t;
  }
    where
      clears-alone : (t : ℕ) → clears t m ≡ has (single m.d0) t
      clears-alone t = rw (is-kind m 6 6 e) (sym (alone m.d0 t below))

      fit : clearance_fits st (the_route st p.route) m ≡ true
      fit = not-false (clearance_fits st (the_route st p.route) m) fits

      -- the clearance is in the route's position
      position : eqb m.d2 (cond (has (the_route st a.asked.d0).reverse m.d0) 1 0) ≡ true
      position = rw a.route (fits-position st (the_route st p.route) m fit)

      marked : (b : Bool) (t : ℕ) → has (cond b (single m.d0) 0) t ≡ (b && eqb m.d0 t)
      marked true t = alone m.d0 t below
      marked false t = has-zero t

      well :
          (t : ℕ) (b : Bool) → eqb m.d0 t ≡ b →
          clears_well st a.asked t m ≡ has (cond (is_efficient m.d1) (single m.d0) 0) t
      well t true q =
          let eff = is_efficient m.d1 in
          let itself = eq-eqb m.d0 m.d0 refl in
          let this-train = eq-eqb m.id a.asked.id (of-its-train a train) in
          let here : clears_well st a.asked m.d0 m ≡ eff =
          rw (is-kind m 6 6 e, itself, this-train, position)
          (efficient-alike st (the_route st p.route) m fit) in
          subst (λ (x : ℕ). clears_well st a.asked x m ≡ has (cond eff (single m.d0) 0) x)
          (eqb-true m.d0 t q)
          (here ∙ sym (marked eff m.d0 ∙ rw itself (and-true eff)))
      well t false q =
          rw (
            is-kind m 6 6 e,
            q,
          ) (sym (marked (is_efficient m.d1) t ∙ rw q (and-false (is_efficient m.d1))))
