-- A good turnout record of version 2 has all that SHEET-2 and SHEET-3 (docs/RULES.md) ask of it.
use mathlib.Core.Bool.{Bool, true, ◌&&◌, ◌||◌, and-eq-true_iff}
use mathlib.Core.Logic.{inl, inr}
use mathlib.Core.Path.{◌≡◌, sym, ◌∙◌}
use Prim.Native.Nat.{ℕ}
use native.Mathlib.Omega.{arith}
use borrow.Author.Tests.{eqb-true, leb-true, ltb-true}
use lib.Dec.{eqb, ltb, leb}
use Rattle.sets.specs.Sets.{has, within, count}
use Rattle.sets.proofs.Members.{within-member}
use Rattle.sets.proofs.Membership.{has-set_of}
use Rattle.station.specs.declared.Station.{Station}
use Rattle.station.specs.Station.{turnout_at, turnout_count, zone_count, zone_of, drive_of}
use Rattle.groups.specs.Groups.{tied}
use Rattle.layout.specs.Counts.{GoodCounts}
use Rattle.layout.proofs.Joined.{three, either}
use Rattle.group_records.specs.GroupRecords.{same_zone_drive, alike, group_kept, good_turnout}
use Rattle.group_records.specs.Guaranteed.{Group, GoodTurnout, EachGuaranteed}

-- a station whose counts are in range, so that the tests read them as they stand
module _ (st : Station) (counts : GoodCounts st) where
  -- the turnouts of one zone and drive
  like :
      (n k : ℕ) → within (tied st n) (alike st.turnouts st.turnout (turnout_at st n)) ≡ true
      → has (tied st n) k ≡ true → (zone_of st k ≡ zone_of st n) × (drive_of st k ≡ drive_of st n)
  unfolding alike
  like n k w m =
      let test : ℕ → Bool = λ j. same_zone_drive (turnout_at st j) (turnout_at st n) in
      let same-ones = alike st.turnouts st.turnout (turnout_at st n) in
      let there =
      sym (has-set_of test (turnout_count st) k (omega arith))
      ∙ within-member (tied st n) same-ones k w m in
      let parts = (and-eq-true_iff (ltb k (turnout_count st)) (test k)).0 there in
      let zone = eqb (zone_of st k) (zone_of st n) in
      let drive = eqb (drive_of st k) (drive_of st n) in
      let same = (and-eq-true_iff zone drive).0 parts.1 in
      (eqb-true (zone_of st k) (zone_of st n) same.0, eqb-true (drive_of st k) (drive_of st n) same.1)

  group :
      (n : ℕ) →
      (ltb (turnout_at st n).group 32
      && group_kept (tied st n) (alike st.turnouts st.turnout (turnout_at st n)))
      ≡ true → Group st n
  group n h =
      let small = ltb (turnout_at st n).group 32 in
      let same-ones = alike st.turnouts st.turnout (turnout_at st n) in
      let parts = (and-eq-true_iff small (group_kept (tied st n) same-ones)).0 h in
      let size = count (tied st n) in
      let kept = three (leb 2 size) (leb size 8) (within (tied st n) same-ones) parts.1 in
      record {
        number = ltb-true (turnout_at st n).group 32 parts.0;
        some = leb-true 2 size kept.0;
        most = leb-true size 8 kept.1;
        one-zone = λ k m. (like n k kept.2 m).0;
        one-drive = λ k m. (like n k kept.2 m).1;
      }

  good-turnout : (n : ℕ) → good_turnout st n ≡ true → GoodTurnout st n
  unfolding good_turnout
  good-turnout n h =
      let t = turnout_at st n in
      let alone = eqb t.group 255 in
      let tied-up =
      ltb t.group 32 && group_kept (tied st n) (alike st.turnouts st.turnout t) in
      let kept = three (ltb t.zone (zone_count st)) (leb t.drive 1) (alone || tied-up) h in
      record {
        zone = omega (arith, ltb-true t.zone (zone_count st) kept.0);
        drive = leb-true t.drive 1 kept.1;
        group = elim (either alone tied-up kept.2) [
          | inl e ↦ inl (eqb-true t.group 255 e)
          | inr e ↦ inr (group n e)
        ];
      }

pub guaranteed : EachGuaranteed
guaranteed = good-turnout
