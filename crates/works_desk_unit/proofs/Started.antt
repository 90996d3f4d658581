-- What a unit may rely on once neither the sheet nor the desk is refused: the bytes are a desk's, a
-- record is heard by the zone in its place, and storing that zone is storing the desk.
use mathlib.Core.Bool.{Bool, true, false}
use mathlib.Core.List.{List}
use mathlib.Core.Path.{◌≡◌, refl, sym}
use Prim.Native.Nat.{ℕ, ◌<◌}
use native.Mathlib.Omega.{arith}
use lib.Dec.{eqb}
use borrow.Author.Tests.{eqb-false, eq-eqb, ne_eqb}
use Rattle.message.specs.declared.Message.{Message}
use Rattle.refusals.specs.declared.Refusal.{Refusal}
use Rattle.refusals.specs.Numbers.{number_of}
use Rattle.message.specs.Record.{accepted, refused, read_record}
use Rattle.message.proofs.RoundTrips.{refused-by}
use Rattle.refusals.proofs.Numbers.{not_zero}
use Rattle.station.specs.declared.Station.{Station}
use Rattle.sheet.specs.Sheet.{Sheet, read_sheet}
use Rattle.zone.specs.Zone.{Answer}
use Rattle.desk.specs.Desk.{zone_at, refused_by, put_back, applied_record, zone_place, zone_hears}
use Rattle.desk.proofs.InPlace.{reached-in-place}
use Rattle.desk_bytes.specs.Encoding.{desk_in, is_desk, stored_zone}
use Rattle.desk_bytes.proofs.ZonePlaces.{zone-stored}
use Rattle.works_desk_unit.specs.Unit.{start_number, started, stored, refused_unit, unit_applied}

-- what the two checks at the start of a record or a question have answered
pub started-by :
    (sheet desk : List ℕ) {read : Sheet} {code : ℕ} → read ≡ read_sheet sheet
    → code ≡ start_number read.code desk
    → started sheet desk ≡ record { code = code; index = read.index; station = read.station }
unfolding started
started-by sheet desk as_read as-told = rw (as-told, as_read)

pub started-desk : (sheet desk : List ℕ) → (started sheet desk).code ≡ 0 → is_desk desk ≡ true
unfolding started
started-desk sheet desk code = go (eqb (read_sheet sheet).code 0) refl (is_desk desk) refl
  where
    go :
        (good : Bool) → eqb (read_sheet sheet).code 0 ≡ good → (told : Bool) → is_desk desk ≡ told →
        is_desk desk ≡ true
    go true p true q = q
    go true p false q = let refused : ◌≡◌ {A = ℕ} 61 0 = rw (p, q) at code in absurd (omega arith)
    go false p told q = absurd (eqb-false (read_sheet sheet).code 0 p (rw p at code))

-- a record that reads as m, heard by the desk in the bytes s
pub record-heard :
    (st : Station) (s r : List ℕ) (m : Message) → accepted m ≡ read_record r
    → applied_record st (desk_in s) r
    ≡ put_back (desk_in s) (zone_place st m) (zone_hears st (zone_at (desk_in s) (zone_place st m)) m)
unfolding applied_record
record-heard st s r m read = rw (← read) (reached-in-place st (desk_in s) m)

-- a record that is refused by a number
pub record-refused :
    (st : Station) (s r : List ℕ) (number : ℕ) → refused number ≡ read_record r
    → applied_record st (desk_in s) r ≡ refused_by (desk_in s) number
unfolding applied_record
record-refused st s r number read = rw (← read, ne_eqb number 0 (refused-by r number read))

-- a record that the desk refuses, as the unit of that station answers it
pub unit-refused :
    (sheet s r : List ℕ) (st : Station) (e : Refusal) → 0 ≡ (started sheet s).code
    → st ≡ (started sheet s).station → number_of e ≡ (applied_record st (desk_in s) r).code
    → refused_unit s (number_of e) ≡ unit_applied sheet s r
unfolding unit_applied stored
unit-refused sheet s r st e zero same code =
    rw (eq-eqb (started sheet s).code 0 (sym zero), ← same, ← code, not_zero e)

-- an accepted answer of the zone in place k, stored
pub zone-answered :
    (s : List ℕ) (k : ℕ) (a : Answer) → is_desk s ≡ true → k < 8 → a.code ≡ 0
    → stored s (put_back (desk_in s) k a)
    ≡ record { code = 0; minutes = a.minutes; bytes = stored_zone s k a.zone }
unfolding stored
zone-answered s k a told below zero =
    rw (eq-eqb a.code 0 zero, zone-stored s k a.zone told below)
