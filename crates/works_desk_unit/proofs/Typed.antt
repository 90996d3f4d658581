-- Hearing keeps the bounds: from the fresh desk on, records of bytes leave a desk whose numbers of
-- several bytes are of their machine types.
use mathlib.Core.Path.{◌≡◌, refl, ◌∙◌}
use mathlib.Core.Bool.{Bool, true, false, cond}
use mathlib.Core.List.{List, [], ◌∷◌}
use Prim.Native.Nat.{ℕ, zero, suc, ◌^◌, ◌<◌}
use native.Mathlib.Nat.{lt_of_le_of_lt}
use native.Mathlib.Omega.{arith}
use lib.Dec.{eqb, ltb, lit<}
use lib.Bits.{bit_and, and_le_l, or_lt, xor_lt}
use lib.Pow.{pow-lt}
use lib.ListN.{length, set, replicate, length-set, get_or-eq_default}
use borrow.Author.Tests.{eqb-true, ltb-true}
use Rattle.bigendian.specs.BigEndian.{Bytes}
use Rattle.bigendian.proofs.Places.{number_lt}
use Rattle.sets.specs.Sets.{single, union, without}
use Rattle.message.specs.declared.Message.{Message}
use Rattle.message.specs.Fields.{field_number}
use Rattle.message.specs.Record.{decoded, read_record}
use Rattle.message.proofs.RoundTrips.{Typed}
use Rattle.message.proofs.EachKind.{◌also◌, each-kind}
use Rattle.station.specs.declared.Station.{Station}
use Rattle.zone.specs.declared.Work.{Work}
use Rattle.zone.specs.declared.Work.TheVariants.{NoWork, Asked, Agreed}
use Rattle.std.specs.Prelude.{None, Some}
use Rattle.zone.specs.declared.Zone.{Zone}
use Rattle.zone.specs.Work.{agreed_from, opened_to, shut_to, restored_of}
use Rattle.zone.specs.Movement.{Movement, movement_for, cleared_at, keyed_at, ordered_as}
use Rattle.rules.specs.Clearance.{is_efficient}
use Rattle.zone.specs.Zone.{fresh_zone}
use Rattle.rules.specs.Kinds.{first, row, rows, checks_of, no_kind, work_after, moved, zone_after}
use Rattle.zone.specs.Trains.{movement_under, changed}
use Rattle.zone.proofs.EachTrain.{every-placed, every-changed, every-under}
use Rattle.desk.specs.declared.Desk.{Desk}
use Rattle.desk.specs.Desk.{zone_at, fresh_desk, applied_record}
use Rattle.desk_bytes.specs.Typed.{TypedWork, TypedMovement, TypedZone, TypedDesk}
use Rattle.desk_bytes.proofs.Typed.{no-work-typed, no-movement-typed, Each, each_none, each_next}
use Rattle.history.specs.Lists.{bytes}
use Rattle.history.proofs.Hearing.{hear-accepted, same-state}

-- the message that is read from bytes
read-typed : (s : List ℕ) → Bytes s → Typed (read_record s).message
unfolding read_record decoded
read-typed s byte = go (eqb (length s) 32) refl (eqb (field_number (decoded s)) 0) refl
  where
    go :
        (whole : Bool) → eqb (length s) 32 ≡ whole → (rules : Bool) →
        eqb (field_number (decoded s)) 0 ≡ rules → Typed (read_record s).message
    go true p true q =
        rw (p, q)
        (record {
          time = number_lt 4 s 2 byte;
          id = number_lt 4 s 6 byte;
          a = number_lt 8 s 10 byte;
          b = number_lt 8 s 18 byte;
        })
    go true p false q =
        rw (p, q) (record { time = lit< tt; id = lit< tt; a = lit< tt; b = lit< tt })
    go false p rules q = rw p (record { time = lit< tt; id = lit< tt; a = lit< tt; b = lit< tt })

-- sets of turnouts below 64 stay so
single-lt : (n : ℕ) → single n < 2 ^ 64
unfolding single
single-lt n = go (ltb n 64) refl
  where
    go : (b : Bool) → ltb n 64 ≡ b → cond b (2 ^ n) 0 < 2 ^ 64
    go true e = pow-lt {i = n} {j = 64} (ltb-true n 64 e)
    go false e = lit< tt

without-lt : (a b : ℕ) → a < 2 ^ 64 → without a b < 2 ^ 64
without-lt a b h = xor_lt 64 a (bit_and a b) h (lt_of_le_of_lt (and_le_l a b) h)

-- what the kinds do to work
agreed-typed : (w : Work) (time : ℕ) → TypedWork w → time < 2 ^ 32 → TypedWork (agreed_from w time)
agreed-typed NoWork time fits now = fits
agreed-typed (Asked q) time fits now =
    record { form = fits.form; set = fits.set; since = now; opened = lit< tt }
agreed-typed (Agreed g) time fits now = fits

opened-typed : (w : Work) (s : ℕ) → TypedWork w → s < 2 ^ 64 → TypedWork (opened_to w s)
opened-typed NoWork s fits more = fits
opened-typed (Asked q) s fits more = fits
opened-typed (Agreed g) s fits more = record {
  form = fits.form;
  set = fits.set;
  since = fits.since;
  opened = or_lt 64 g.opened s fits.opened more;
}

shut-typed : (w : Work) (s : ℕ) → TypedWork w → TypedWork (shut_to w s)
shut-typed NoWork s fits = fits
shut-typed (Asked q) s fits = fits
shut-typed (Agreed g) s fits = record {
  form = fits.form;
  set = fits.set;
  since = fits.since;
  opened = without-lt g.opened s fits.opened;
}

restored-typed : (w : Work) (s : ℕ) → TypedWork w → TypedWork (restored_of w s)
restored-typed NoWork s fits = fits
restored-typed (Asked q) s fits = fits
restored-typed (Agreed g) s fits = record {
  form = fits.form;
  set = without-lt g.set s fits.set;
  since = fits.since;
  opened = without-lt g.opened s fits.opened;
}

-- and to a movement
cleared-typed :
    (v : Movement) (n : ℕ) (efficient : Bool) → TypedMovement v →
    TypedMovement (cleared_at v n efficient)
cleared-typed None n efficient fits = fits
cleared-typed (Some p) n efficient fits = record {
  train = fits.train;
  cleared = or_lt 64 p.cleared (single n) fits.cleared (single-lt n);
  efficient =
      or_lt 64 p.efficient (cond efficient (single n) 0) fits.efficient (one efficient);
  keys = fits.keys;
}
  where
    one : (b : Bool) → cond b (single n) 0 < 2 ^ 64
    one true = single-lt n
    one false = lit< tt

ordered-typed : (v : Movement) (order : ℕ) → TypedMovement v → TypedMovement (ordered_as v order)
ordered-typed None order fits = fits
ordered-typed (Some p) order fits = record {
  train = fits.train;
  cleared = fits.cleared;
  efficient = fits.efficient;
  keys = fits.keys;
}

keyed-typed : (v : Movement) (n : ℕ) → TypedMovement v → TypedMovement (keyed_at v n)
keyed-typed None n fits = fits
keyed-typed (Some p) n fits = record {
  train = fits.train;
  cleared = fits.cleared;
  efficient = fits.efficient;
  keys = or_lt 64 p.keys (single n) fits.keys (single-lt n);
}

-- a zone after a message that passed the checks of its kind
after-typed :
    (st : Station) (z : Zone) (m : Message) → Typed m → TypedZone z →
    first (checks_of m.kind st z m) ≡ 0 → TypedZone (zone_after m.kind z m)
unfolding zone_after row work_after moved
after-typed st z m told fits checks =
    let both = by_kind m.kind checks in
    record { work = both.0; movement = both.1; time = told.time }
  where
    its : Movement
    its = movement_under z m.id

    its-typed : TypedMovement (movement_under z m.id)
    its-typed = every-under TypedMovement z m.id no-movement-typed fits.movement

    becomes : (v : Movement) → TypedMovement v → TypedMovement (changed z.movement m.id v)
    becomes v new = every-changed TypedMovement z.movement m.id v fits.movement new

    by_kind :
        (k : ℕ) → first (checks_of k st z m) ≡ 0 →
        TypedWork (work_after k z.work m) × TypedMovement (moved k z m).movement
    by_kind =
        each-kind (λ k. first (checks_of k st z m) ≡ 0
        → TypedWork (work_after k z.work m) × TypedMovement (moved k z m).movement)
        ((λ none. absurd (omega arith))
        also (λ none. (
          record { form = told.id; set = told.a; since = lit< tt; opened = lit< tt },
          fits.movement,
        ))
        also (λ none. (agreed-typed z.work m.time fits.work told.time, fits.movement))
        also (λ none. (no-work-typed, fits.movement))
        also (λ none.
        let either = or_lt 64 m.a m.b told.a told.b in
        (opened-typed z.work (union m.a m.b) fits.work either, fits.movement))
        also (λ none.
        let placed = movement_for m.id m.d0 in
        let typed : TypedMovement placed =
        record { train = told.id; cleared = lit< tt; efficient = lit< tt; keys = lit< tt } in
        (fits.work, every-placed TypedMovement z.movement placed fits.movement typed))
        also (λ none.
        let cleared = cleared_at its m.d0 (is_efficient m.d1) in
        let typed = cleared-typed its m.d0 (is_efficient m.d1) its-typed in
        (shut-typed z.work (single m.d0) fits.work, becomes cleared typed))
        also (λ none.
        let typed = ordered-typed its m.d0 its-typed in
        (fits.work, becomes (ordered_as its m.d0) typed))
        also (λ none. (fits.work, becomes None no-movement-typed))
        also (λ none. (fits.work, becomes None no-movement-typed))
        also (λ none. (restored-typed z.work m.a fits.work, fits.movement))
        also (λ none. (no-work-typed, fits.movement))
        also (λ none. (fits.work, fits.movement))
        also (λ none.
        let typed = keyed-typed its m.d0 its-typed in
        (fits.work, becomes (keyed_at its m.d0) typed))
        also tt)
        (λ k past none.
        let eleven : ◌≡◌ {A = ℕ} 11 0 = rw (get_or-eq_default rows no_kind past) at none in
        absurd (omega arith))

-- one zone is put back
each_set : (l : List Zone) (k : ℕ) (z : Zone) → TypedZone z → Each l → Each (set l k z)
each_set [] k z next all = each_none
each_set (y ∷ l) zero z next all = each_next z l next (λ n. all (suc n))
each_set (y ∷ l) (suc k) z next all =
    each_next y (set l k z) (all 0) (each_set l k z next (λ n. all (suc n)))

pub fresh-typed : TypedDesk fresh_desk
unfolding fresh_desk
fresh-typed = record { zones = refl; each = all 8 }
  where
    all : (n : ℕ) → Each (replicate n fresh_zone)
    all zero = each_none
    all (suc n) =
        each_next fresh_zone (replicate n fresh_zone)
        (record { work = no-work-typed; movement = no-movement-typed; time = lit< tt })
        (all n)

pub applied-typed :
    (st : Station) (d : Desk) (s : List ℕ) → TypedDesk d → Bytes s →
    TypedDesk (applied_record st d s).desk
applied-typed st d s fits byte = go (eqb (applied_record st d s).code 0) refl
  where
    go :
        (b : Bool) → eqb (applied_record st d s).code 0 ≡ b →
        TypedDesk (applied_record st d s).desk
    go true p =
        let m = (read_record s).message in
        let z = zone_at d m.zone in
        let taken = hear-accepted st d (bytes s) (eqb-true (applied_record st d s).code 0 p) in
        let next = after-typed st z m (read-typed s byte) (fits.each m.zone) taken.checks in
        rw taken.desk
        (record {
          zones = length-set d.zones m.zone (zone_after m.kind z m) ∙ fits.zones;
          each = each_set d.zones m.zone (zone_after m.kind z m) next fits.each;
        })
    go false p = rw (same-state st d (bytes s) p) fits
