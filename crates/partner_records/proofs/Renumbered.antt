-- The crossovers of a sheet of version 1 are good groups.
use mathlib.Core.Bool.{Bool, true, false, ◌&&◌, ◌||◌, false≢true, or-true}
use mathlib.Core.Logic.{inl, inr}
use mathlib.Core.Path.{◌≡◌, refl, sym, ap, ap₂, ◌∙◌}
use Prim.Native.Nat.{ℕ, ◌≤◌, ◌<◌}
use native.Mathlib.Omega.{arith}
use borrow.Author.Tests.{eqb-true, eq-eqb, lt-ltb, le-ltb, le-leb}
use lib.Dec.{eqb, ltb, leb}
use lib.Bits.{or_zero_r}
use Rattle.sets.specs.Sets.{has, single, union, count}
use Rattle.sets.proofs.Membership.{has-or, has-set_of}
use Rattle.sets.proofs.Members.{within_all}
use Rattle.sets.proofs.Sizes.{has_one, count-two}
use Rattle.station.specs.declared.Turnout.{Turnout}
use Rattle.station.specs.declared.Station.{Station}
use Rattle.station.specs.Station.{turnout_at, turnout_count, zone_count, zone_of, drive_of}
use Rattle.groups.specs.Groups.{tied}
use Rattle.layout.specs.Counts.{GoodCounts}
use Rattle.group_records.specs.GroupRecords.{alike, group_kept, turnout_kept, good_turnout}
use Rattle.partner_records.specs.PartnerRecords.{partner_of, pair_number, renumbered}
use Rattle.partner_records.specs.Crossovers.{Partnered, EachRenumbered}
use Rattle.partner_records.proofs.Ends.{paired, alone-or}
use Rattle.partner_records.proofs.Pairs.{number-alone, number_small, renumbered-at, same-tied}
use Rattle.partner_records.proofs.Pairs.{count_kept}

module _ (st : Station) (counts : GoodCounts st) (good : (n : ℕ) → n < st.turnouts → Partnered st n) where
  abbrev limit : st.turnouts ≤ 64
  limit = counts.turnouts-limit

  abbrev p : ℕ
  p = st.turnouts

  abbrev new : Station
  new = renumbered st

  -- the turnouts tied to one after renumbering
  pub tied-alone : (n : ℕ) → n < p → partner_of st n ≡ 255 → tied new n ≡ single n
  tied-alone n l e =
      same-tied st limit good n l
      ∙ rw (le-ltb (partner_of st n) (turnout_count st) (omega arith)) (or_zero_r (single n))

  pub tied-pair : (n : ℕ) → n < p → partner_of st n < p → tied new n ≡ union (single n) (single (partner_of st n))
  tied-pair n l b = same-tied st limit good n l ∙ rw (lt-ltb (partner_of st n) (turnout_count st) (omega arith))

  pub count-pair : (n : ℕ) → n < p → partner_of st n < p → count (union (single n) (single (partner_of st n))) ≡ 2
  count-pair n l b =
      let back = (paired st limit good n l b).other in
      count-two n (partner_of st n) (omega arith) (omega arith) (λ e. back (sym e))

  -- a turnout of the zone and drive of n is like it
  like : (n k : ℕ) → n < p → k < p → zone_of st k ≡ zone_of st n → drive_of st k ≡ drive_of st n
      → has (alike new.turnouts new.turnout (turnout_at new n)) k ≡ true
  unfolding alike
  like n k ln lk ez ed =
      has-set_of test (turnout_count new) k (rw (count_kept st limit good) (omega arith))
      ∙ ap₂ (λ (a b : Bool). a && b)
      (lt-ltb k (turnout_count new) (rw (count_kept st limit good) (omega arith)))
      (ap₂ (λ (t o : Turnout). eqb o.zone t.zone && eqb o.drive t.drive)
      (renumbered-at st limit good n ln) (renumbered-at st limit good k lk)
      ∙ rw (eq-eqb (zone_of st k) (zone_of st n) ez, eq-eqb (drive_of st k) (drive_of st n) ed))
    where
      test : ℕ → Bool
      test j = eqb (zone_of new j) (turnout_at new n).zone && eqb (drive_of new j) (turnout_at new n).drive

  -- a crossover is a good group
  pair-kept : (n : ℕ) → n < p → partner_of st n < p
      → group_kept (tied new n) (alike new.turnouts new.turnout (turnout_at new n)) ≡ true
  pair-kept n l below =
      ap (λ (g : ℕ). group_kept g (alike new.turnouts new.turnout (turnout_at new n))) (tied-pair n l below)
      ∙ rw (count-pair n l below)
      (within_all (union (single n) (single m)) (alike new.turnouts new.turnout (turnout_at new n)) each)
    where
      m : ℕ
      m = partner_of st n

      each : (k : ℕ) → has (union (single n) (single m)) k ≡ true
          → has (alike new.turnouts new.turnout (turnout_at new n)) k ≡ true
      each k h =
          go (eqb k n) (eqb k m) refl refl
          (sym (has-or (single n) (single m) k
          ∙ ap₂ (λ (a b : Bool). a || b) (has_one n k (omega arith)) (has_one m k (omega arith))) ∙ h)
        where
          go : (a b : Bool) → eqb k n ≡ a → eqb k m ≡ b → (a || b) ≡ true
              → has (alike new.turnouts new.turnout (turnout_at new n)) k ≡ true
          go true b e f h = rw (eqb-true k n e) (like n n l l refl refl)
          go false true e f h =
              let other = paired st limit good n l below in
              rw (eqb-true k m f) (like n m l below other.same-zone other.same-drive)
          go false false e f h = absurd (false≢true h)

  zones-kept : zone_count new ≡ zone_count st
  unfolding renumbered
  zones-kept = refl

  -- every turnout of the renumbered station is good
  pub good-renumbered : (n : ℕ) → n < p → good_turnout new n ≡ true
  unfolding good_turnout
  good-renumbered n l =
      ap₂ (λ (z : ℕ) (t : Turnout). turnout_kept z t (tied new n)
      (alike new.turnouts new.turnout (turnout_at new n))) zones-kept (renumbered-at st limit good n l)
      ∙ rw (zone, drive) (elim (alone-or st limit good n l) [ inl e ↦ alone e | inr b ↦ pair b ])
    where
      zone : ltb (zone_of st n) (zone_count st) ≡ true
      zone =
          let h = (good n l).zone in
          let z = counts.zones-limit in
          lt-ltb (zone_of st n) (zone_count st) (omega arith)

      drive : leb (drive_of st n) 1 ≡ true
      drive = le-leb (drive_of st n) 1 (good n l).drive

      rest : ℕ → Bool
      rest g = eqb g 255 || ltb g 32
          && group_kept (tied new n) (alike new.turnouts new.turnout (turnout_at new n))

      alone : partner_of st n ≡ 255 → rest (pair_number st n) ≡ true
      alone e = ap rest (number-alone st limit good n e)

      pair : partner_of st n < p → rest (pair_number st n) ≡ true
      pair b =
          rw (lt-ltb (pair_number st n) 32 (number_small st limit good n l b), pair-kept n l b)
          (or-true (eqb (pair_number st n) 255))

pub each-renumbered : EachRenumbered
each-renumbered st counts good = record {
  same-tied = same-tied st counts.turnouts-limit good;
  good = good-renumbered st counts good;
}
