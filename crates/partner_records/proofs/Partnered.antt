-- What a good turnout record of version 1 guarantees.
use mathlib.Core.Bool.{true, not, ◌||◌}
use mathlib.Core.Logic.{inl, inr}
use mathlib.Core.Path.{◌≡◌}
use Prim.Native.Nat.{ℕ}
use native.Mathlib.Omega.{arith}
use borrow.Author.Tests.{eqb-true, eqb-false, leb-true, ltb-true, not-true}
use lib.Dec.{eqb, ltb, leb}
use Rattle.station.specs.declared.Station.{Station}
use Rattle.station.specs.Station.{turnout_at, turnout_count, zone_count}
use Rattle.layout.proofs.Joined.{three, five, either}
use Rattle.layout.specs.Counts.{GoodCounts}
use Rattle.partner_records.specs.PartnerRecords.{partner_of, partner_kept, good_turnout}
use Rattle.partner_records.specs.Crossovers.{Crossover, Partnered, EachPartnered}

-- a station whose counts are in range, so that the tests read them as they stand
module _ (st : Station) (counts : GoodCounts st) where
  crossover :
      (n : ℕ)
      → partner_kept (turnout_count st) n (turnout_at st n) (turnout_at st (partner_of st n)) ≡ true
      → Crossover st n
  crossover n h =
      let t = turnout_at st n in
      let o = turnout_at st t.group in
      let below = ltb t.group (turnout_count st) in
      let itself = eqb t.group n in
      let back = eqb o.group n in
      let same-zone = eqb o.zone t.zone in
      let same-drive = eqb o.drive t.drive in
      let kept = five below (not itself) back same-zone same-drive h in
      record {
        below = omega (arith, ltb-true t.group (turnout_count st) kept.0);
        other = eqb-false t.group n (not-true itself kept.1);
        back = eqb-true o.group n kept.2;
        same-zone = eqb-true o.zone t.zone kept.3;
        same-drive = eqb-true o.drive t.drive kept.4;
      }

  pub partnered : (n : ℕ) → good_turnout st n ≡ true → Partnered st n
  unfolding good_turnout
  partnered n h =
      let t = turnout_at st n in
      let alone = eqb t.group 255 in
      let paired = partner_kept (turnout_count st) n t (turnout_at st t.group) in
      let kept = three (ltb t.zone (zone_count st)) (leb t.drive 1) (alone || paired) h in
      record {
        zone = omega (arith, ltb-true t.zone (zone_count st) kept.0);
        drive = leb-true t.drive 1 kept.1;
        partner = elim (either alone paired kept.2) [
          | inl e ↦ inl (eqb-true t.group 255 e)
          | inr e ↦ inr (crossover n e)
        ];
      }

pub each-partnered : EachPartnered
each-partnered = partnered
