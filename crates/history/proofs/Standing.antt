-- A standing movement and the work of its zone: what is cleared, what has neither a clearance nor a
-- key, and whether the signals are clear, by the state and by the history.
use mathlib.Core.Bool.{Bool, true, false, cond, not, ◌&&◌, ◌||◌, or-true, and-eq-true_iff, true≢false}
use mathlib.Core.List.{List, [], ◌∷◌}
use mathlib.Core.Logic.{◌↔◌}
use mathlib.Core.Path.{◌≡◌, refl, sym, ap, ap₂, subst₂, ◌∙◌}
use Prim.Native.Nat.{ℕ}
use native.Mathlib.Omega.{arith}
use borrow.Author.Tests.{eq-eqb}
use lib.Dec.{eqb}
use Rattle.sets.specs.Sets.{has, within, is_empty}
use Rattle.sets.proofs.Membership.{has-zero, has-and, has-or, has-without}
use Rattle.sets.proofs.Members.{within-member, within_all, empty-all}
use Rattle.message.specs.declared.Message.{Message}
use Rattle.station.specs.declared.Station.{Station}
use Rattle.station.specs.Station.{the_route, named_by}
use Rattle.zone.specs.declared.Work.{Work}
use Rattle.zone.specs.Movement.{Movement, cleared_set, efficient_set, key_set, lack_nothing, allow_clear}
use Rattle.std.specs.Prelude.{None, Some}
use Rattle.zone.specs.declared.Passage.{Passage}
use Rattle.zone.specs.declared.Regime.TheVariants.{Held, Clear, Danger}
use Rattle.zone.specs.Work.{agreed_set}
use Rattle.zone.specs.Movement.{route_for, worked_turnouts, lacking, regime_on, regime_of, is_clear, under_train}
use Rattle.history.specs.Since.{never, since, any}
use Rattle.history.specs.History.{clears, clears_well, under_agreed_work, standing, cleared}
use Rattle.history.specs.History.{of_its_route, all_efficient, key_for, allows_clear, EachWorkedAllowsClear, lacks}
use Rattle.history.proofs.Agrees.{WorkAgrees, Stands, MovementAgrees, under-is}

-- what is cleared, by the state and by the history
pub cleared-is :
    (st : Station) (H : List Message) (v : Movement) → MovementAgrees st H v → (t : ℕ) →
    cleared t H ≡ has (cleared_set v) t
unfolding cleared
cleared-is st H None a t = rw a (sym (has-zero t))
cleared-is st H (Some p) a t = rw a.stands (a.cleared t)

any-weaker :
    (p q : Message → Bool) → ((m : Message) → p m ≡ true → q m ≡ true) → (l : List Message) →
    any p l ≡ true → any q l ≡ true
unfolding any
any-weaker p q weaker [] e = absurd (true≢false (sym e))
any-weaker p q weaker (m ∷ l) e = go (p m) refl (any-weaker p q weaker l)
  where
    go : (b : Bool) → p m ≡ b → (any p l ≡ true → any q l ≡ true) → (q m || any q l) ≡ true
    go true h later = rw (weaker m h)
    go false h later = rw (later (rw h at e)) (or-true (q m))

-- a good clearance is a clearance
well-clears :
    (st : Station) (f : Message) (t : ℕ) (m : Message) → clears_well st f t m ≡ true →
    clears t m ≡ true
well-clears st f t m e =
    let train = eqb m.id f.id in
    let position = eqb m.d2 (cond (has (the_route st f.d0).reverse t) 1 0) in
    let efficient = all_efficient st t m in
    let in-position = ((and-eq-true_iff (clears t m && train && position) efficient).0 e).0 in
    let for-train = ((and-eq-true_iff (clears t m && train) position).0 in-position).0 in
    ((and-eq-true_iff (clears t m) train).0 for-train).0

-- one of two tests holds where the first becomes a weaker one
or-weaker : (a b c : Bool) → (a ≡ true → b ≡ true) → (a || c) ≡ true → (b || c) ≡ true
or-weaker true b c weaker e = rw (weaker refl)
or-weaker false b c weaker e = rw e (or-true b)

-- the regime is clear only where all that are worked on allow it
clear-means :
    (st : Station) (w : Work) (v : Movement) → regime_of st w v ≡ Clear →
    within (worked_turnouts (route_for st v) w) (allow_clear v) ≡ true
unfolding regime_on
clear-means st w v e =
    let held = not (is_empty (lacking st w v)) in
    let good = within (worked_turnouts (route_for st v) w) (allow_clear v) in
    go held good (ap is_clear e)
  where
    go : (held good : Bool) → is_clear (cond held Held (cond good Clear Danger)) ≡ true → good ≡ true
    go true good h = absurd (true≢false (sym h))
    go false true h = refl
    go false false h = absurd (true≢false (sym h))

-- a standing movement, by the messages L of its train; the work, by all messages H of the zone
module _ (st : Station) (H L : List Message) (w : Work) (p : Passage)
    (work : WorkAgrees H w) (a : Stands st L p) where
  -- a worked turnout, by the state and by the history
  worked-is :
      (t : ℕ) →
      has (worked_turnouts (route_for st (Some p)) w) t
      ≡ (of_its_route st a.asked t && under_agreed_work t H)
  worked-is t =
      has-and (named_by (the_route st p.route)) (agreed_set w) t
      ∙ rw (a.route, under-is H w work t)

  -- a turnout with a clearance or a key
  nothing-lacks-is :
      (t : ℕ) →
      (any (clears t) a.rest || any (key_for a.asked t) a.rest)
      ≡ has (lack_nothing (Some p)) t
  nothing-lacks-is t =
      ap₂ (λ (o b : Bool). o || b) (a.cleared t) (a.keys t)
      ∙ sym (has-or p.cleared p.keys t)

  -- a turnout with a good clearance or a key
  allows-is : (t : ℕ) → allows_clear st a.asked a.rest t ≡ has (allow_clear (Some p)) t
  allows-is t =
      ap₂ (λ (o b : Bool). o || b) (a.efficient t) (a.keys t)
      ∙ sym (has-or p.efficient p.keys t)

  -- a turnout with neither
  lacking-is : (t : ℕ) → lacks st H a.asked a.rest t ≡ has (lacking st w (Some p)) t
  lacking-is t =
      sym (has-without (worked_turnouts (route_for st (Some p)) w) (lack_nothing (Some p)) t
      ∙ rw (worked-is t, nothing-lacks-is t))

  clear-then : regime_of st w (Some p) ≡ Clear → EachWorkedAllowsClear st H a.asked a.rest
  clear-then clear t named under =
      let good = clear-means st w (Some p) clear in
      let worked = worked_turnouts (route_for st (Some p)) w in
      let under-work : has worked t ≡ true = worked-is t ∙ rw (named, under) in
      allows-is t ∙ within-member worked (allow_clear (Some p)) t good under-work

  then-clear : EachWorkedAllowsClear st H a.asked a.rest → regime_of st w (Some p) ≡ Clear
  unfolding regime_on
  then-clear each =
      rw (
        empty-all (lacking st w (Some p)) none,
        within_all (worked_turnouts (route_for st (Some p)) w) (allow_clear (Some p)) good,
      )
    where
      allowed :
          (t : ℕ) → has (worked_turnouts (route_for st (Some p)) w) t ≡ true →
          allows_clear st a.asked a.rest t ≡ true
      allowed t h =
          let worked = sym (worked-is t) ∙ h in
          let both = (and-eq-true_iff (of_its_route st a.asked t) (under_agreed_work t H)).0 worked in
          each t both.0 both.1

      good :
          (t : ℕ) → has (worked_turnouts (route_for st (Some p)) w) t ≡ true →
          has (allow_clear (Some p)) t ≡ true
      good t h = sym (allows-is t) ∙ allowed t h

      go :
          (t : ℕ) (b : Bool) → has (worked_turnouts (route_for st (Some p)) w) t ≡ b →
          (b && not (has (lack_nothing (Some p)) t)) ≡ false
      go t true h =
          let well = clears_well st a.asked t in
          let key = any (key_for a.asked t) a.rest in
          let weaker = any-weaker well (clears t) (well-clears st a.asked t) a.rest in
          let nothing-lacks =
          or-weaker (any well a.rest) (any (clears t) a.rest) key weaker (allowed t h) in
          rw (sym (nothing-lacks-is t) ∙ nothing-lacks)
      go t false h = refl

      none : (t : ℕ) → has (lacking st w (Some p)) t ≡ false
      none t =
          has-without (worked_turnouts (route_for st (Some p)) w) (lack_nothing (Some p)) t
          ∙ rw (go t (has (worked_turnouts (route_for st (Some p)) w) t) refl)

-- the movement asked by f, which stands by the messages L of its train: what the desk says of it
pub record Told (st : Station) (H : List Message) (w : Work) (v : Movement)
    (f : Message) (rest : List Message) : Type 0 where
  pub under : under_train v f.id ≡ true
  pub clear : (regime_of st w v ≡ Clear) ↔ EachWorkedAllowsClear st H f rest
  pub lacking-of : (t : ℕ) → lacks st H f rest t ≡ has (lacking st w v) t
  pub cleared-well : (t : ℕ) → any (clears_well st f t) rest ≡ has (efficient_set v) t
  pub keys-used : (t : ℕ) → any (key_for f t) rest ≡ has (key_set v) t

pub told :
    (st : Station) (H L : List Message) (w : Work) (v : Movement)
    (f : Message) (rest : List Message)
    → WorkAgrees H w → MovementAgrees st L v → standing L ≡ since f rest → Told st H w v f rest
told st H L w None f rest work a stands =
    let z : ◌≡◌ {A = ℕ} 0 1 = cc in
    absurd (omega arith)
told st H L w (Some p) f rest work a stands =
    let same : since a.asked a.rest ≡ since f rest = sym a.stands ∙ stands in
    let first : a.asked ≡ f = cc in
    let later : a.rest ≡ rest = cc in
    subst₂ (λ (g : Message) (l : List Message). Told st H w (Some p) g l) first later
    (record {
      under = eq-eqb p.train a.asked.id (sym a.train);
      clear = (clear-then st H L w p work a, then-clear st H L w p work a);
      lacking-of = lacking-is st H L w p work a;
      cleared-well = a.efficient;
      keys-used = a.keys;
    })

-- where no movement stands by the messages, none is under any train
pub none-under :
    (st : Station) (L : List Message) (v : Movement) (train : ℕ) → MovementAgrees st L v →
    standing L ≡ never → under_train v train ≡ false
none-under st L None train a none = refl
none-under st L (Some p) train a none =
    let z : never ≡ since a.asked a.rest = sym none ∙ a.stands in
    let impossible : ◌≡◌ {A = ℕ} 0 1 = cc in
    absurd (omega arith)
