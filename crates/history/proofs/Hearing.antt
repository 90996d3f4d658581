-- Hearing one input: an accepted one passed its checks and had its effect on its zone, a refused
-- one left the desk as it was.
use mathlib.Core.Bool.{Bool, true, false, true≢false}
use mathlib.Core.List.{List}
use mathlib.Core.Path.{◌≡◌, refl, ap, ◌∙◌}
use Prim.Native.Nat.{ℕ, ◌<◌}
use native.Mathlib.Omega.{arith}
use borrow.Author.Tests.{not-false, eqb-true, eqb-false, ltb-true}
use lib.Dec.{eqb, ltb}
use lib.ListN.{set}
use Rattle.message.specs.declared.Message.{Message}
use Rattle.message.specs.Fields.{field_number}
use Rattle.message.specs.Record.{read_record}
use Rattle.message.proofs.RoundTrips.{accepted-rules}
use Rattle.station.specs.declared.Station.{Station}
use Rattle.station.specs.Station.{zone_count}
use Rattle.zone.specs.declared.Zone.{Zone}
use Rattle.zone.specs.Zone.{Answer, refused_in}
use Rattle.rules.specs.Kinds.{first, checks_of, answered, heard_on, heard, zone_after}
use Rattle.desk.specs.declared.Desk.{Desk}
use Rattle.desk.specs.Desk.{zone_at, refused_by, no_such_zone, reached, applied, applied_record}
use Rattle.desk.proofs.InPlace.{zone-kept}
use Rattle.history.specs.Lists.{Input, message, bytes, message_of, Heard}
use Rattle.history.specs.Demand3.{heard_by, hears}

-- a message that its zone accepted
pub heard-accepted :
    (st : Station) (z : Zone) (m : Message) → (heard st z m).code ≡ 0 →
    (first (checks_of m.kind st z m) ≡ 0) × ((heard st z m).zone ≡ zone_after m.kind z m)
unfolding heard heard_on answered
heard-accepted st z m zero = go (ltb m.time z.time) refl (eqb number 0) refl
  where
    number : ℕ
    number = first (checks_of m.kind st z m)

    go :
        (early : Bool) → ltb m.time z.time ≡ early → (none : Bool) →
        eqb (first (checks_of m.kind st z m)) 0 ≡ none
        → (first (checks_of m.kind st z m) ≡ 0) × ((heard st z m).zone ≡ zone_after m.kind z m)
    go true p none q = let fourteen : ◌≡◌ {A = ℕ} 14 0 = rw p at zero in absurd (omega arith)
    go false p true q = (eqb-true (first (checks_of m.kind st z m)) 0 q, rw (p, q))
    go false p false q =
        absurd (eqb-false (first (checks_of m.kind st z m)) 0 q (rw (p, q) at zero))

-- a message that its zone refused: nothing is altered, and there are no minutes
pub heard-refused :
    (st : Station) (z : Zone) (m : Message) → eqb (heard st z m).code 0 ≡ false
    → heard st z m ≡ refused_in z (heard st z m).code
unfolding heard heard_on answered
heard-refused st z m other =
    go (ltb m.time z.time) refl (eqb (first (checks_of m.kind st z m)) 0) refl
  where
    go :
        (early : Bool) → ltb m.time z.time ≡ early → (none : Bool)
        → eqb (first (checks_of m.kind st z m)) 0 ≡ none
        → heard st z m ≡ refused_in z (heard st z m).code
    go true p none q = rw p
    go false p true q = absurd (true≢false (rw (p, q) at other))
    go false p false q = rw (p, q)

-- what an accepted message m did to the desk d
pub record Taken (st : Station) (d : Desk) (m : Message) (d' : Desk) : Type 0 where
  pub rules : field_number m ≡ 0
  pub zone : m.zone < zone_count st
  pub checks : first (checks_of m.kind st (zone_at d m.zone) m) ≡ 0
  pub desk :
      d' ≡ record { zones = set d.zones m.zone (zone_after m.kind (zone_at d m.zone) m) }

-- a message that keeps the field rules
reached-accepted :
    (st : Station) (d : Desk) (m : Message) → field_number m ≡ 0 → (reached st d m).code ≡ 0
    → Taken st d m (reached st d m).desk
unfolding reached
reached-accepted st d m rules zero = go (no_such_zone st m) refl
  where
    go : (none : Bool) → no_such_zone st m ≡ none → Taken st d m (reached st d m).desk
    go true p = let twelve : ◌≡◌ {A = ℕ} 12 0 = rw p at zero in absurd (omega arith)
    go false p =
        let h = heard-accepted st (zone_at d m.zone) m (rw p at zero) in
        record {
          rules = rules;
          zone = ltb-true m.zone (zone_count st) (not-false (ltb m.zone (zone_count st)) p);
          checks = h.0;
          desk = rw (p, h.1);
        }

reached-refused :
    (st : Station) (d : Desk) (m : Message) → eqb (reached st d m).code 0 ≡ false
    → reached st d m ≡ refused_by d (reached st d m).code
unfolding reached
reached-refused st d m other = go (no_such_zone st m) refl
  where
    go :
        (none : Bool) → no_such_zone st m ≡ none →
        reached st d m ≡ refused_by d (reached st d m).code
    go true p = rw p
    go false p =
        let answer = heard st (zone_at d m.zone) m in
        let same = heard-refused st (zone_at d m.zone) m (rw p at other) in
        let minutes : answer.minutes ≡ 0 = ap (λ (a : Answer). a.minutes) same in
        let zones : set d.zones m.zone answer.zone ≡ d.zones =
        ap (λ (a : Answer). set d.zones m.zone a.zone) same ∙ zone-kept d m.zone in
        rw p (λ i. record {
          code = answer.code;
          minutes = minutes i;
          desk = record { zones = zones i };
        })

applied-accepted :
    (st : Station) (d : Desk) (m : Message) → (applied st d m).code ≡ 0 →
    Taken st d m (applied st d m).desk
unfolding applied
applied-accepted st d m zero = go (eqb (field_number m) 0) refl
  where
    go : (fields : Bool) → eqb (field_number m) 0 ≡ fields → Taken st d m (applied st d m).desk
    go true p = rw p (reached-accepted st d m (eqb-true (field_number m) 0 p) (rw p at zero))
    go false p = absurd (eqb-false (field_number m) 0 p (rw p at zero))

applied-refused :
    (st : Station) (d : Desk) (m : Message) → eqb (applied st d m).code 0 ≡ false
    → applied st d m ≡ refused_by d (applied st d m).code
unfolding applied
applied-refused st d m other = go (eqb (field_number m) 0) refl
  where
    go :
        (fields : Bool) → eqb (field_number m) 0 ≡ fields →
        applied st d m ≡ refused_by d (applied st d m).code
    go true p = rw p (reached-refused st d m (rw p at other))
    go false p = rw p

record-accepted :
    (st : Station) (d : Desk) (s : List ℕ) → (applied_record st d s).code ≡ 0
    → Taken st d (read_record s).message (applied_record st d s).desk
unfolding applied_record
record-accepted st d s zero = go (eqb (read_record s).code 0) refl
  where
    go :
        (read : Bool) → eqb (read_record s).code 0 ≡ read →
        Taken st d (read_record s).message (applied_record st d s).desk
    go true p =
        let rules = accepted-rules s (eqb-true (read_record s).code 0 p) in
        rw p (reached-accepted st d (read_record s).message rules (rw p at zero))
    go false p = absurd (eqb-false (read_record s).code 0 p (rw p at zero))

record-refused :
    (st : Station) (d : Desk) (s : List ℕ) → eqb (applied_record st d s).code 0 ≡ false
    → applied_record st d s ≡ refused_by d (applied_record st d s).code
unfolding applied_record
record-refused st d s other = go (eqb (read_record s).code 0) refl
  where
    go :
        (read : Bool) → eqb (read_record s).code 0 ≡ read →
        applied_record st d s ≡ refused_by d (applied_record st d s).code
    go true p = rw p (reached-refused st d (read_record s).message (rw p at other))
    go false p = rw p

pub hear-accepted :
    (st : Station) (d : Desk) (i : Input) → (hears st d i).reply.code ≡ 0 →
    Taken st d (message_of i) (hears st d i).state
hear-accepted st d (message m) zero = applied-accepted st d m zero
hear-accepted st d (bytes s) zero = record-accepted st d s zero

-- A refused input changes nothing and is answered with 0 minutes.
pub hear-refused :
    (st : Station) (d : Desk) (i : Input) → eqb (hears st d i).reply.code 0 ≡ false
    → hears st d i ≡ heard_by (refused_by d (hears st d i).reply.code)
hear-refused st d (message m) other = ap heard_by (applied-refused st d m other)
hear-refused st d (bytes s) other = ap heard_by (record-refused st d s other)

pub same-state :
    (st : Station) (d : Desk) (i : Input) → eqb (hears st d i).reply.code 0 ≡ false →
    (hears st d i).state ≡ d
same-state st d i other = ap (λ (h : Heard Desk). h.state) (hear-refused st d i other)
