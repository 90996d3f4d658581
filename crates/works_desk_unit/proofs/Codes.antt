-- The codes of the unit fit a byte: each number of the table of kinds does, and so do those that
-- come before it.
use mathlib.Core.Bool.{Bool, true, false, ◌&&◌, and-eq-true_iff}
use mathlib.Core.List.{List, [], ◌∷◌}
use mathlib.Core.Path.{◌≡◌, refl}
use Prim.Native.Nat.{ℕ, ◌<◌}
use lib.Dec.{eqb, ltb, lit<}
use lib.ListN.{length, get_or-eq_default}
use borrow.Author.Tests.{ltb-true, eq-eqb}
use Rattle.message.specs.declared.Message.{Message}
use Rattle.message.specs.Fields.{is_kind, fields_kept, field_number}
use Rattle.message.specs.Record.{decoded, read_record}
use Rattle.message.proofs.EachKind.{each-kind, ◌also◌}
use Rattle.station.specs.declared.Station.{Station}
use Rattle.sheet.specs.Sheet.{read_sheet}
use Rattle.zone.specs.declared.Zone.{Zone}
use Rattle.rules.specs.declared.Concerned.{Concerned}
use Rattle.rules.specs.Routes.{concerned}
use Rattle.rules.specs.Kinds.{Check, ◌gives◌, first, row, rows, no_kind, checks_of, answered, heard_on}
use Rattle.rules.specs.Kinds.{heard}
use Rattle.desk.specs.declared.Desk.{Desk}
use Rattle.desk.specs.Desk.{Applied, zone_at, no_such_zone, reached, applied_record}
use Rattle.desk_bytes.specs.Encoding.{is_desk}
use Rattle.works_desk_unit.specs.Unit.{started, stored, unit_applied}

-- every number of a list of checks fits
abbrev all_fit : List Check → Bool
all_fit [] = true
all_fit ((test gives number) ∷ rest) = ltb number 256 && all_fit rest

first_fits : (checks : List Check) → all_fit checks ≡ true → first checks < 256
first_fits [] fits = lit< tt
first_fits ((true gives number) ∷ rest) fits =
    ltb-true number 256 ((and-eq-true_iff (ltb number 256) (all_fit rest)).0 fits).0
first_fits ((false gives number) ∷ rest) fits =
    first_fits rest ((and-eq-true_iff (ltb number 256) (all_fit rest)).0 fits).1

-- the table of kinds
rows_fit :
    (st : Station) (on : Concerned) (z : Zone) (m : Message) (k : ℕ) →
    all_fit (row k st on z m) ≡ true
unfolding row
rows_fit st on z m =
    each-kind (λ k. all_fit (row k st on z m) ≡ true)
    (refl also refl also refl also refl also refl also refl also refl
    also refl also refl also refl also refl also refl also refl also refl also tt)
    (λ k past. rw (get_or-eq_default rows no_kind past))

-- a message heard by its zone: 14, or the number of its row
heard-fits : (st : Station) (z : Zone) (m : Message) → (heard st z m).code < 256
unfolding heard heard_on answered
heard-fits st z m =
    go (ltb m.time z.time) refl (eqb (first (checks_of m.kind st z m)) 0) refl
  where
    go :
        (early : Bool) → ltb m.time z.time ≡ early
        → (none : Bool) → eqb (first (checks_of m.kind st z m)) 0 ≡ none
        → (heard st z m).code < 256
    go true p none q = rw p (lit< tt)
    go false p true q = rw (p, q) (lit< tt)
    go false p false q =
        rw (
          p,
          q,
        ) (first_fits (checks_of m.kind st z m) (rows_fit st (concerned st z m) z m m.kind))

reached-fits : (st : Station) (d : Desk) (m : Message) → (reached st d m).code < 256
unfolding reached
reached-fits st d m = go (no_such_zone st m) refl
  where
    go : (none : Bool) → no_such_zone st m ≡ none → (reached st d m).code < 256
    go true p = rw p (lit< tt)
    go false p = rw p (heard-fits st (zone_at d m.zone) m)

-- a record: 10, 11 or 13, or as the desk answers its message
field_fits : (m : Message) → field_number m < 256
unfolding field_number
field_fits m = go (is_kind m.kind) refl (fields_kept m) refl
  where
    go :
        (kind : Bool) → is_kind m.kind ≡ kind → (kept : Bool) → fields_kept m ≡ kept →
        field_number m < 256
    go true p true q = rw (p, q) (lit< tt)
    go true p false q = rw (p, q) (lit< tt)
    go false p kept q = rw p (lit< tt)

record-fits : (st : Station) (d : Desk) (s : List ℕ) → (applied_record st d s).code < 256
unfolding applied_record read_record
record-fits st d s = go (eqb (length s) 32) refl (eqb (field_number (decoded s)) 0) refl
  where
    go :
        (whole : Bool) → eqb (length s) 32 ≡ whole
        → (kept : Bool) → eqb (field_number (decoded s)) 0 ≡ kept
        → (applied_record st d s).code < 256
    go true p true q = rw (p, q) (reached-fits st d (decoded s))
    go true p false q = rw (p, q, q) (field_fits (decoded s))
    go false p kept q = rw p (lit< tt)

-- an answer that is stored has the code of the desk's
stored-fits : (s : List ℕ) (a : Applied) → a.code < 256 → (stored s a).code < 256
unfolding stored
stored-fits s a fits = go (eqb a.code 0) refl
  where
    go : (taken : Bool) → eqb a.code 0 ≡ taken → (stored s a).code < 256
    go true p = rw p (lit< tt)
    go false p = rw p fits

-- a record heard by the unit of an accepted sheet
pub answer-fits :
    (sheet s r : List ℕ) → (read_sheet sheet).code ≡ 0 → (unit_applied sheet s r).code < 256
unfolding unit_applied started
answer-fits sheet s r good = go (is_desk s) refl
  where
    accepted : eqb (read_sheet sheet).code 0 ≡ true
    accepted = eq-eqb (read_sheet sheet).code 0 good

    go : (told : Bool) → is_desk s ≡ told → (unit_applied sheet s r).code < 256
    go true p = rw (accepted, p) (stored-fits s _ (record-fits (read_sheet sheet).station _ r))
    go false p = rw (accepted, p) (lit< tt)
