-- M-106: the theorem. What a list gives a zone is what hearing the zone's messages alone gives it, so
-- two lists that are alike in them give it the same; the statement is in specs/Separation.antt.
use mathlib.Core.Bool.{Bool, true, false, ◌&&◌, and-eq-true_iff}
use mathlib.Core.List.{List, [], ◌∷◌, map}
use mathlib.Core.Path.{◌≡◌, refl, sym, ap, ap₂, ◌∙◌}
use Prim.Native.Nat.{ℕ}
use borrow.Author.Tests.{eqb-true, eq-eqb}
use lib.Dec.{eqb, ltb}
use Rattle.message.specs.declared.Message.{Message}
use Rattle.message.specs.Fields.{field_number}
use Rattle.message.specs.Record.{read_record}
use Rattle.message.proofs.RoundTrips.{accepted-rules}
use Rattle.station.specs.declared.Station.{Station}
use Rattle.station.specs.Station.{zone_count}
use Rattle.sheet.specs.Sheet.{read_sheet}
use Rattle.desk.specs.declared.Desk.{Desk}
use Rattle.desk.specs.Desk.{fresh_desk, zone_at, reached, applied, applied_record}
use Rattle.desk.specs.Separate.{SameZone}
use Rattle.desk.proofs.Separate.{separate}
use Rattle.history.specs.Lists.{Input, message, bytes, message_of, Reply, after, answers}
use Rattle.history.specs.Demand3.{heard_by, hears, ours}
use Rattle.history.specs.Separation.{unread_by, belongs_to, belonging, Alike, zone_answers}
use Rattle.history.specs.Separation.{SameQuestions, SameForZone, Separation, HeardAlone}
use Rattle.history.proofs.Works.{in-zone}
use Rattle.history.proofs.Alone.{heard-alone}

module _ (st : Station) (z : ℕ) where
  -- an input that reads is heard as its message
  kept-heard : (d : Desk) (m : Message) → field_number m ≡ 0 → applied st d m ≡ reached st d m
  unfolding applied
  kept-heard d m kept = rw (eq-eqb (field_number m) 0 kept)

  read-heard :
      (d : Desk) (i : Input) → unread_by i ≡ 0 → hears st d i ≡ heard_by (reached st d (message_of i))
  unfolding applied_record
  read-heard d (message m) reads = ap heard_by (kept-heard d m reads)
  read-heard d (bytes s) reads = rw (eq-eqb (read_record s).code 0 reads)

  -- and one that does not leaves the desk as it was
  unread : (d : Desk) (i : Input) → eqb (unread_by i) 0 ≡ false → (hears st d i).state ≡ d
  unfolding applied applied_record
  unread d (message m) not-read = rw not-read
  unread d (bytes s) not-read = rw not-read

  -- the message of an input that reads keeps the field rules
  reads-too : (i : Input) → unread_by i ≡ 0 → field_number (message_of i) ≡ 0
  reads-too (message m) reads = reads
  reads-too (bytes s) reads = accepted-rules s reads

  -- an input of another zone, or of none, leaves zone z as it was
  foreign :
      (d e : Desk) (i : Input) → belongs_to (zone_count st) z i ≡ false → SameZone z d e
      → SameZone z (hears st d i).state e
  foreign d e i other same = go (eqb (unread_by i) 0) refl
    where
      go : (b : Bool) → eqb (unread_by i) 0 ≡ b → SameZone z (hears st d i).state e
      go true p =
          rw (read-heard d i (eqb-true (unread_by i) 0 p))
          ((separate st z d e same).others (message_of i) (rw p at other))
      go false p = rw (unread d i p) same

  -- two desks the same in zone z hear a message of it alike, one of them as input i
  own :
      (d e : Desk) (i : Input) → belongs_to (zone_count st) z i ≡ true → SameZone z d e
      → ((hears st d i).reply ≡ (hears st e (message (message_of i))).reply)
      × SameZone z (hears st d i).state (hears st e (message (message_of i))).state
  own d e i its same =
      let m = message_of i in
      let below = ltb m.zone (zone_count st) in
      let both = (and-eq-true_iff (eqb (unread_by i) 0) (below && eqb m.zone z)).0 its in
      let reads = eqb-true (unread_by i) 0 both.0 in
      let here = eqb-true m.zone z ((and-eq-true_iff below (eqb m.zone z)).0 both.1).1 in
      let answer = (separate st z d e same).own m here in
      rw (read-heard d i reads, kept-heard e m (reads-too i reads))
      ((λ k. record { code = answer.code k; minutes = answer.minutes k }), answer.after)

  -- the zone's messages alone, heard by a desk that is the same in it
  pub alone :
      (inputs : List Input) (d e : Desk) → SameZone z d e
      → let its = map message (belonging (zone_count st) z inputs) in
      (zone_answers ours st z d inputs ≡ answers ours st e its)
      × SameZone z (after ours st d inputs) (after ours st e its)
  unfolding belonging zone_answers answers after
  alone [] d e same = (refl, same)
  alone (i ∷ inputs) d e same = go (belongs_to (zone_count st) z i) refl
      (λ (d e : Desk) (same : SameZone z d e). alone inputs d e same)
    where
      its : List Input → List Input
      its inputs = map message (belonging (zone_count st) z inputs)

      go : (b : Bool) → belongs_to (zone_count st) z i ≡ b
          → ((d e : Desk) → SameZone z d e
          → (zone_answers ours st z d inputs ≡ answers ours st e (its inputs))
          × SameZone z (after ours st d inputs) (after ours st e (its inputs)))
          → (zone_answers ours st z d (i ∷ inputs) ≡ answers ours st e (its (i ∷ inputs)))
          × SameZone z (after ours st d (i ∷ inputs)) (after ours st e (its (i ∷ inputs)))
      go true p later =
          let heard = own d e i p same in
          let rest =
          later (hears st d i).state (hears st e (message (message_of i))).state heard.1 in
          rw p (ap₂ (λ (r : Reply) (l : List Reply). r ∷ l) heard.0 rest.0, rest.1)
      go false p later = rw p (later (hears st d i).state e (foreign d e i p same))

  -- the questions look at zone z
  questions : (d e : Desk) → SameZone z d e → SameQuestions ours st z d e
  questions d e same = record {
    movement = (separate st z d e same).movement;
    work = λ t there. (separate st z d e same).work t (in-zone st z t there).zone;
  }

  -- what holds of two alike lists, on any station
  pub same-for-zone : (one other : List Input) → Alike st z one other → SameForZone ours st z one other
  unfolding fresh_desk
  same-for-zone one other alike =
      let fresh : SameZone z fresh_desk fresh_desk =
      record { eight = refl; eight-too = refl; zone = refl } in
      let of_one = alone one fresh_desk fresh_desk fresh in
      let of_other = alone other fresh_desk fresh_desk fresh in
      let its : List Message → List Input = map message in
      let same : SameZone z (after ours st fresh_desk one) (after ours st fresh_desk other) =
      record {
        eight = of_one.1.eight;
        eight-too = of_other.1.eight;
        zone =
            of_one.1.zone
            ∙ ap (λ (ms : List Message). zone_at (after ours st fresh_desk (its ms)) z) alike
            ∙ sym of_other.1.zone;
      } in
      record {
        answers =
            of_one.0
            ∙ ap (λ (ms : List Message). answers ours st fresh_desk (its ms)) alike
            ∙ sym of_other.0;
        questions = questions (after ours st fresh_desk one) (after ours st fresh_desk other) same;
      }

-- M-106
pub separation : Separation ours
separation sheet good z one other alike = same-for-zone (read_sheet sheet).station z one other alike

-- and as it is used
pub only-its-own : HeardAlone ours
only-its-own = heard-alone ours separation
