-- The routes of a sheet of version 1 are judged as document 01 judges them, by partners.
use mathlib.Core.Bool.{Bool, true, false, not, ◌&&◌, ◌||◌, and-eq-true_iff, or-true}
use mathlib.Core.Logic.{inl, inr}
use mathlib.Core.Path.{◌≡◌, refl, sym, ap, ap₂, ◌∙◌}
use Prim.Native.Nat.{ℕ, ◌≤◌, ◌<◌}
use native.Mathlib.Omega.{arith}
use borrow.Author.Tests.{eqb-true}
use lib.Dec.{eqb}
use lib.Bits.{bit_and}
use Rattle.sets.specs.Sets.{has, single, union, within, count}
use Rattle.sets.proofs.Membership.{has-and}
use Rattle.sets.proofs.Members.{within_all, empty-all}
use Rattle.sets.proofs.Ranges.{all_same}
use Rattle.sets.proofs.Sizes.{has_one, count-single}
use Rattle.station.specs.declared.Turnout.{Turnout}
use Rattle.station.specs.declared.Route.{Route}
use Rattle.station.specs.declared.Station.{Station}
use Rattle.station.specs.Station.{turnout_at, route_at, turnout_count, zone_of, named_by}
use Rattle.groups.specs.Groups.{whole, tied}
use Rattle.layout.specs.Counts.{GoodCounts}
use Rattle.partner_records.specs.PartnerRecords.{partner_of, renumbered}
use Rattle.partner_records.specs.Crossovers.{Partnered, pair_of}
use Rattle.partner_records.proofs.Partnered.{partnered}
use Rattle.partner_records.proofs.Ends.{alone-or}
use Rattle.partner_records.proofs.Pairs.{renumbered-at, same-tied}
use Rattle.partner_records.proofs.Renumbered.{tied-alone, tied-pair, count-pair}
use Rattle.sheet.specs.VersionOne.{member_by_partners, route_by_partners, EachByPartners}
use Rattle.sheet.specs.Sheet.{sets_kept, member_kept, good_route}

-- of one turnout a set takes all or none
whole-single : (n x s : ℕ) → n < 64 → whole (bit_and (single n) x) s ≡ true
whole-single n x s l = go (has s n) refl
  where
    member : (k : ℕ) → has (bit_and (single n) x) k ≡ true → k ≡ n
    member k m =
        let both = (and-eq-true_iff (has (single n) k) (has x k)).0 (sym (has-and (single n) x k) ∙ m) in
        eqb-true k n (sym (has_one n k l) ∙ both.0)

    go : (b : Bool) → has s n ≡ b → whole (bit_and (single n) x) s ≡ true
    go true e = rw (within_all (bit_and (single n) x) s (λ k m. ap (has s) (member k m) ∙ e))
    go false e =
        rw (empty-all (bit_and (bit_and (single n) x) s) (λ k. none k (has (bit_and (single n) x) k) refl))
        (or-true (within (bit_and (single n) x) s))
      where
        none : (k : ℕ) (b : Bool) → has (bit_and (single n) x) k ≡ b → has (bit_and (bit_and (single n) x) s) k ≡ false
        none k true m = has-and (bit_and (single n) x) s k ∙ rw m (ap (has s) (member k m) ∙ e)
        none k false m = has-and (bit_and (single n) x) s k ∙ rw m

module _ (st : Station) (counts : GoodCounts st) (good : (n : ℕ) → n < st.turnouts → Partnered st n) where
  abbrev limit : st.turnouts ≤ 64
  limit = counts.turnouts-limit

  abbrev p : ℕ
  p = st.turnouts

  abbrev new : Station
  new = renumbered st

  same_route : (r : ℕ) → good_route new r ≡ route_by_partners st r
  unfolding good_route renumbered
  same_route r =
      ap (λ (b : Bool). sets_kept (turnout_count st) (route_at st r) && b)
      (all_same (λ t. member_kept x t (turnout_at new t) (tied new t))
      (λ t. member_by_partners x t (turnout_at st t) (pair_of st t)) (turnout_count st)
      (λ t l. each t (omega arith)))
    where
      x : Route
      x = route_at st r

      position : ℕ → Bool
      position g = whole (bit_and g (named_by x)) x.reverse

      each : (t : ℕ) → t < p
          → member_kept x t (turnout_at new t) (tied new t) ≡ member_by_partners x t (turnout_at st t) (pair_of st t)
      each t l =
          ap₂ (λ (o : Turnout) (g : ℕ). member_kept x t o g) (renumbered-at st limit good t l)
          (same-tied st limit good t l)
          ∙ ap (λ (b : Bool). (not (has (named_by x) t) || eqb (zone_of st t) x.zone)
          && (not (has x.flank t) || within g x.flank) && b)
          (elim (alone-or st limit good t l) [
            | inl e ↦ by (sym (same-tied st limit good t l)
                ∙ tied-alone st counts good t l e) (alone (count-single t (omega arith)))
            | inr b ↦ by (sym (same-tied st limit good t l)
                ∙ tied-pair st counts good t l b)
                (pair (union (single t) (single (partner_of st t))) (count-pair st counts good t l b))
          ])
        where
          g : ℕ
          g = pair_of st t

          asks : ℕ → Bool
          asks h = not (eqb (count h) 2) || position h

          by : {h : ℕ} → g ≡ h → asks h ≡ position h → asks g ≡ position g
          by e f = ap asks e ∙ f ∙ sym (ap position e)

          alone : count (single t) ≡ 1 → asks (single t) ≡ position (single t)
          alone e = rw e (sym (whole-single t (named_by x) x.reverse (omega arith)))

          pair : (h : ℕ) → count h ≡ 2 → asks h ≡ position h
          pair h e = rw e

pub by-partners : EachByPartners
by-partners st counts good = same_route st counts (λ n l. partnered st counts n (good n l))
