-- A zone hears its own messages only, one message at a time: the law of specs/Separate.antt.
use mathlib.Core.Bool.{Bool, true, false, cond, not, ◌&&◌}
use mathlib.Core.Logic.{◌≢◌}
use mathlib.Core.Path.{◌≡◌, refl, sym, ap, ◌∙◌}
use Prim.Native.Nat.{ℕ, ◌<◌}
use native.Mathlib.Omega.{arith}
use borrow.Author.Tests.{eqb-false, ltb-true}
use lib.Dec.{eqb, ltb}
use lib.ListN.{length, set, length-set}
use lib.Seq.{get_or-set_same, get_or-set_other}
use Rattle.station.specs.declared.Station.{Station}
use Rattle.station.specs.Station.{zone_count, zone_of}
use Rattle.message.specs.declared.Message.{Message}
use Rattle.zone.specs.declared.Zone.{Zone}
use Rattle.zone.specs.Zone.{no_zone}
use Rattle.rules.specs.Kinds.{heard}
use Rattle.desk.specs.declared.Desk.{Desk}
use Rattle.desk.specs.Desk.{zone_at, reached}
use Rattle.desk.specs.Questions.{movement_refused, movement_in, movement_answered}
use Rattle.desk.specs.Questions.{work_answered}
use Rattle.desk.specs.Separate.{SameZone, SameAnswer, Separate}

module _ (st : Station) (n : ℕ) (d e : Desk) (s : SameZone n d e) where
  others :
      (m : Message) → (ltb m.zone (zone_count st) && eqb m.zone n) ≡ false
      → SameZone n (reached st d m).desk e
  unfolding reached
  others m foreign = go (ltb m.zone (zone_count st)) refl
    where
      go : (below : Bool) → ltb m.zone (zone_count st) ≡ below → SameZone n (reached st d m).desk e
      go false p = rw p s
      go true p =
          let other : n ≢ m.zone =
          λ same. eqb-false m.zone n (rw p at foreign) (sym same) in
          rw p (record {
            eight = length-set d.zones _ _ ∙ s.eight;
            eight-too = s.eight-too;
            zone = get_or-set_other d.zones _ n _ no_zone other ∙ s.zone;
          })

  own : (m : Message) → m.zone ≡ n → SameAnswer n (reached st d m) (reached st e m)
  unfolding reached
  own m its = go (ltb m.zone (zone_count st)) refl
    where
      same : zone_at d m.zone ≡ zone_at e m.zone
      same = rw its s.zone

      stored :
          (c : Desk) (z : Zone) → m.zone < length c.zones
          → zone_at (record { zones = set c.zones m.zone z }) m.zone ≡ z
      stored c z room = get_or-set_same c.zones m.zone z no_zone room

      go :
          (below : Bool) → ltb m.zone (zone_count st) ≡ below
          → SameAnswer n (reached st d m) (reached st e m)
      go false p = rw p (record { code = refl; minutes = refl; after = s })
      go true p =
          let in-d = (heard st (zone_at d m.zone) m).zone in
          let in_e = (heard st (zone_at e m.zone) m).zone in
          let below = ltb-true m.zone (zone_count st) p in
          rw p (record {
            code = ap (λ (z : Zone). (heard st z m).code) same;
            minutes = ap (λ (z : Zone). (heard st z m).minutes) same;
            after = record {
              eight = length-set d.zones _ _ ∙ s.eight;
              eight-too = length-set e.zones _ _ ∙ s.eight-too;
              zone =
                  rw (← its)
                  (stored d in-d (rw s.eight (omega (arith, below)))
                  ∙ ap (λ (z : Zone). (heard st z m).zone) same
                  ∙ sym (stored e in_e (rw s.eight-too (omega (arith, below)))));
            };
          })

  movement : (train : ℕ) → movement_answered st d n train ≡ movement_answered st e n train
  unfolding movement_answered
  movement train =
      ap (λ (z : Zone).
      cond (not (ltb n (zone_count st))) (movement_refused 12) (movement_in st z train))
      s.zone

  work : (t : ℕ) → zone_of st t ≡ n → work_answered st d t ≡ work_answered st e t
  unfolding work_answered
  work t its = rw (its, s.zone)

  pub separate : Separate st n d e
  separate = record { others = others; own = own; movement = movement; work = work }
