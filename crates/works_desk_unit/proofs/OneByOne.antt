-- The law of the unit, proved: it hears records as the desk of the contracts does, so records heard
-- one by one get what replaying them as a journal gives.
use mathlib.Core.Path.{◌≡◌, refl, sym, ap, ◌∙◌}
use mathlib.Core.Bool.{Bool, true, false}
use mathlib.Core.List.{List, [], ◌∷◌, map}
use Prim.Native.Nat.{ℕ, zero, suc, ◌+◌}
use lib.Dec.{eqb, lit<}
use lib.ListN.{length, take, drop}
use lib.Seq.{get_or-drop}
use borrow.Author.Tests.{eq-eqb, eqb-true}
use Rattle.bigendian.specs.BigEndian.{Bytes}
use Rattle.station.specs.declared.Station.{Station}
use Rattle.sheet.specs.Sheet.{read_sheet}
use Rattle.desk.specs.declared.Desk.{Desk}
use Rattle.desk.specs.Desk.{fresh_desk, applied_record}
use Rattle.desk.specs.Questions.{movement_answered, work_answered}
use Rattle.journal.specs.Journal.{journal_number, counted, record_place, record_in, records_from}
use Rattle.journal.specs.Journal.{records}
use Rattle.history.specs.Lists.{Input, message, bytes, Heard, after, answers}
use Rattle.history.specs.Demand3.{hears, ours}
use Rattle.replay.specs.Replay.{inputs_of, ran, replayed, movement_replayed, work_replayed}
use Rattle.history.proofs.Hearing.{hear-refused}
use Rattle.desk_bytes.specs.Encoding.{desk_bytes}
use Rattle.desk_bytes.specs.Typed.{TypedDesk}
use Rattle.desk_bytes.proofs.RoundTrip.{decoded-encoded, encoded-is-desk}
use Rattle.works_desk_unit.specs.Unit.{UnitAnswer, unit_fresh, started, stored, unit_applied}
use Rattle.works_desk_unit.specs.Unit.{unit_movement, unit_work}
use Rattle.works_desk_unit.specs.OneByOne.{leaves, record_of, unit_of, Each, IsRecord, OneByOne}
use Rattle.works_desk_unit.proofs.Typed.{fresh-typed, applied-typed}
use Rattle.works_desk_unit.proofs.Follows.{Follows, good-after, after_same, answers-same}

-- what a unit stores of a desk's answer is that answer, as bytes, also where the record is refused:
-- then nothing has changed
stored-as : (st : Station) (d : Desk) (r : List ℕ)
    → let a = applied_record st d r in
    stored (desk_bytes d) a
    ≡ record { code = a.code; minutes = a.minutes; bytes = desk_bytes a.desk }
unfolding stored
stored-as st d r = go (eqb (applied_record st d r).code 0) refl
  where
    go : (b : Bool) → eqb (applied_record st d r).code 0 ≡ b
        → let a = applied_record st d r in
        stored (desk_bytes d) a
        ≡ record { code = a.code; minutes = a.minutes; bytes = desk_bytes a.desk }
    go true p = rw (p, eqb-true (applied_record st d r).code 0 p)
    go false p =
        let same = hear-refused st d (bytes r) p in
        let told : Heard Desk → UnitAnswer =
        λ h. record {
          code = h.reply.code;
          minutes = h.reply.minutes;
          bytes = desk_bytes h.state;
        } in
        rw p (sym (ap told same))

-- a unit of an accepted sheet, whose bytes are a desk's, hears a record as that desk does
pub hears-as :
    (sheet : List ℕ) → (read_sheet sheet).code ≡ 0 → (d : Desk) → TypedDesk d → (r : List ℕ)
    → let a = applied_record (read_sheet sheet).station d r in
    unit_applied sheet (desk_bytes d) r
    ≡ record { code = a.code; minutes = a.minutes; bytes = desk_bytes a.desk }
unfolding unit_applied started
hears-as sheet good d fits r =
    let st = (read_sheet sheet).station in
    rw (eq-eqb (read_sheet sheet).code 0 good, encoded-is-desk d fits)
    (ap (λ (e : Desk). stored (desk_bytes d) (applied_record st e r)) (decoded-encoded d fits)
    ∙ stored-as st d r)

-- the unit of an accepted sheet follows the desk of the contracts
unfoldable pub follows :
    (sheet : List ℕ) → (read_sheet sheet).code ≡ 0 →
    Follows (unit_of sheet) ours (read_sheet sheet).station IsRecord
follows sheet good = record { shown = desk_bytes; Good = TypedDesk; step = step; stays = stays }
  where
    st : Station
    st = (read_sheet sheet).station

    step : (d : Desk) → TypedDesk d → (i : Input) → IsRecord i
        → leaves (unit_applied sheet (desk_bytes d) (record_of i))
        ≡ record { reply = (hears st d i).reply; state = desk_bytes (hears st d i).state }
    step d fits (message m) record-it = absurd record-it
    step d fits (bytes s) byte = ap leaves (hears-as sheet good d fits s)

    stays : (d : Desk) → TypedDesk d → (i : Input) → IsRecord i → TypedDesk (hears st d i).state
    stays d fits (message m) record-it = absurd record-it
    stays d fits (bytes s) byte = applied-typed st d s fits byte

-- Over every list of records, of any length: the answers are the desk's, and the bytes those of the
-- desk.
pub lists-same :
    (sheet : List ℕ) → (read_sheet sheet).code ≡ 0 → (inputs : List Input) → Each IsRecord inputs
    → let st = (read_sheet sheet).station in
    (answers (unit_of sheet) st (unit_of sheet).fresh inputs ≡ answers ours st ours.fresh inputs)
    × (after (unit_of sheet) st (unit_of sheet).fresh inputs
    ≡ desk_bytes (after ours st ours.fresh inputs))
unfolding follows
lists-same sheet good inputs pass =
    let F = follows sheet good in (
      answers-same F fresh_desk fresh-typed inputs pass,
      after_same F fresh_desk fresh-typed inputs pass,
    )

-- the questions put to the bytes of a desk are those put to the desk
pub movement-asked :
    (sheet : List ℕ) → (read_sheet sheet).code ≡ 0 → (d : Desk) → TypedDesk d → (zone train : ℕ) →
    unit_movement sheet (desk_bytes d) zone train
    ≡ movement_answered (read_sheet sheet).station d zone train
unfolding unit_movement started
movement-asked sheet good d fits zone train =
    rw (eq-eqb (read_sheet sheet).code 0 good, encoded-is-desk d fits, decoded-encoded d fits)

pub work-asked :
    (sheet : List ℕ) → (read_sheet sheet).code ≡ 0 → (d : Desk) → TypedDesk d → (turnout : ℕ) →
    unit_work sheet (desk_bytes d) turnout ≡ work_answered (read_sheet sheet).station d turnout
unfolding unit_work started
work-asked sheet good d fits turnout =
    rw (eq-eqb (read_sheet sheet).code 0 good, encoded-is-desk d fits, decoded-encoded d fits)

-- the records of a journal of bytes are of bytes
take-bytes : (n : ℕ) (s : List ℕ) → Bytes s → Bytes (take n s)
take-bytes zero s byte i = lit< tt
take-bytes (suc n) [] byte i = lit< tt
take-bytes (suc n) (b ∷ s) byte zero = byte 0
take-bytes (suc n) (b ∷ s) byte (suc i) = take-bytes n s (λ j. byte (suc j)) i

record-bytes : (s : List ℕ) → Bytes s → (n : ℕ) → Bytes (record_in s n)
record-bytes s byte n =
    take-bytes 32 (drop (record_place n) s)
    (λ i. rw (get_or-drop (record_place n) s i 0) (byte (record_place n + i)))

inputs-records : (journal : List ℕ) → Bytes journal → Each IsRecord (inputs_of journal)
unfolding inputs_of records records_from
inputs-records journal byte = from 0 (counted journal)
  where
    from : (n k : ℕ) → Each IsRecord (map bytes (records_from journal n k))
    from n zero = tt
    from n (suc k) = (record-bytes journal byte n, from (n + 1) k)

pub one_by_one :
    (sheet journal : List ℕ) → Bytes journal → (read_sheet sheet).code ≡ 0 →
    journal_number journal ≡ 0 → OneByOne sheet journal
unfolding replayed ran movement_replayed work_replayed follows
one_by_one sheet journal byte good whole =
    let st = (read_sheet sheet).station in
    let each = inputs-records journal byte in
    let F = follows sheet good in
    let accepted = eq-eqb (read_sheet sheet).code 0 good in
    let journal-good = eq-eqb (journal_number journal) 0 whole in
    let both = lists-same sheet good (inputs_of journal) each in
    let same = both.0 in
    let last = both.1 in
    let d = after ours st fresh_desk (inputs_of journal) in
    let fits = good-after F fresh_desk fresh-typed (inputs_of journal) each in
    record {
      replay = λ buffer room. rw (accepted, journal-good, room, same);
      desk = last;
      movement =
          λ zone train. rw (
            accepted,
            journal-good,
            last,
          ) (movement-asked sheet good d fits zone train);
      work = λ turnout. rw (accepted, journal-good, last) (work-asked sheet good d fits turnout);
    }

-- the bytes that a unit starts from
pub starts-fresh :
    (buffer : List ℕ) → length buffer ≡ 520 → (unit_fresh buffer).bytes ≡ desk_bytes fresh_desk
unfolding unit_fresh
starts-fresh buffer room = rw (eq-eqb (length buffer) 520 room)
