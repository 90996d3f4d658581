-- The turnouts of one zone and drive, by a number for each zone and drive.
use mathlib.Core.Bool.{Bool, true, false, cond, ◌&&◌, ◌||◌, and-eq-true_iff}
use mathlib.Core.List.{List}
use mathlib.Core.Path.{◌≡◌, refl, ap, ap₂, ◌∙◌}
use Prim.Native.Nat.{ℕ, ◌+◌, ◌*◌, ◌≤◌, ◌<◌, min}
use native.Mathlib.Omega.{arith}
use borrow.Author.Tests.{eqb-true, eq-eqb, ltb-true, leb-true, lt-ltb, le-leb}
use lib.Dec.{eqb, ltb, leb}
use lib.ListN.{get_or}
use Rattle.sets.specs.Sets.{single, set_of}
use Rattle.sets.proofs.Membership.{set_same}
use Rattle.sets.proofs.Tables.{places-below}
use Rattle.station.specs.declared.Turnout.{Turnout}
use Rattle.station.specs.Station.{empty_turnout}
use Rattle.groups.specs.Groups.{number_in, carriers_among, tied_among}
use Rattle.group_records.specs.GroupRecords.{same_zone_drive, alike, group_kept, turnout_kept}
use Rattle.group_records.specs.GroupRecords.{zone_drive_number, as_zone_drive}
use Rattle.group_records.specs.GroupRecords.{by_zone_drive}
use Rattle.layout.proofs.Joined.{same_test}

-- records of one number are of one zone and drive
module _ (t : Turnout) (zone : t.zone < 8) (drive : t.drive ≤ 1) where
  number-here : zone_drive_number t ≡ t.zone * 2 + t.drive
  number-here = rw (lt-ltb t.zone 8 zone, le-leb t.drive 1 drive)

  same_number : (o : Turnout) → eqb (zone_drive_number o) (zone_drive_number t) ≡ same_zone_drive o t
  same_number o =
      same_test (eqb (zone_drive_number o) (zone_drive_number t)) (same_zone_drive o t)
      (λ e. there (ltb o.zone 8) (leb o.drive 1) refl refl (eqb-true (zone_drive_number o) (zone_drive_number t) e))
      (λ e. back ((and-eq-true_iff (eqb o.zone t.zone) (eqb o.drive t.drive)).0 e))
    where
      back :
          (eqb o.zone t.zone ≡ true) × (eqb o.drive t.drive ≡ true)
          → eqb (zone_drive_number o) (zone_drive_number t) ≡ true
      back e =
          eq-eqb (zone_drive_number o) (zone_drive_number t)
          (ap₂ (λ (z d : ℕ). cond (ltb z 8 && leb d 1) (z * 2 + d) 255)
          (eqb-true o.zone t.zone e.0) (eqb-true o.drive t.drive e.1))

      there :
          (a b : Bool) → ltb o.zone 8 ≡ a → leb o.drive 1 ≡ b
          → cond (a && b) (o.zone * 2 + o.drive) 255 ≡ zone_drive_number t → same_zone_drive o t ≡ true
      there true true ea eb e =
          let h = e ∙ number-here in
          let d = leb-true o.drive 1 eb in
          let zones : o.zone ≡ t.zone = omega (arith, h, d, drive) in
          let drives : o.drive ≡ t.drive = omega (arith, h, d, drive) in
          rw (eq-eqb o.zone t.zone zones, eq-eqb o.drive t.drive drives)
      there true false ea eb e = absurd (omega (arith, e ∙ number-here, zone, drive))
      there false b ea eb e = absurd (omega (arith, e ∙ number-here, zone, drive))

module _ (p : ℕ) (ts : List Turnout) where
  number_at :
      (k : ℕ) → k < min p 64 → number_in (by_zone_drive p ts) k ≡ zone_drive_number (get_or ts k empty_turnout)
  unfolding by_zone_drive
  number_at k l =
      let f : ℕ → Turnout = λ n. as_zone_drive (get_or ts n empty_turnout) in
      ap (λ (t : Turnout). t.group) (places-below f p empty_turnout k l)

  -- what is tied to a turnout by these numbers: those of its zone and drive
  pub same-likes :
      (n : ℕ) → n < min p 64 → (get_or ts n empty_turnout).zone < 8 → (get_or ts n empty_turnout).drive ≤ 1
      → tied_among p (by_zone_drive p ts) n ≡ alike p ts (get_or ts n empty_turnout)
  unfolding tied_among carriers_among alike
  same-likes n l zone drive =
      ap by (number_at n l) ∙ rw (lt-ltb n (min p 64) l, lt-ltb (zone_drive_number t) 32 small) each
    where
      t : Turnout
      t = get_or ts n empty_turnout

      by : ℕ → ℕ
      by g =
          cond (ltb n (min p 64) && ltb g 32) (set_of (λ k. eqb (number_in (by_zone_drive p ts) k) g) (min p 64))
          (single n)

      small : zone_drive_number t < 32
      small = rw (number-here t zone drive) (omega (arith, zone, drive))

      each :
          set_of (λ k. eqb (number_in (by_zone_drive p ts) k) (zone_drive_number t)) (min p 64)
          ≡ set_of (λ k. same_zone_drive (get_or ts k empty_turnout) t) (min p 64)
      each =
          set_same (λ k. eqb (number_in (by_zone_drive p ts) k) (zone_drive_number t))
          (λ k. same_zone_drive (get_or ts k empty_turnout) t) (min p 64)
          (λ k h. ap (λ (g : ℕ). eqb g (zone_drive_number t)) (number_at k h)
          ∙ same_number t zone drive (get_or ts k empty_turnout))

-- the turnouts of a record's zone and drive are asked for only where these are possible
pub asked_of :
    (z : ℕ) (t : Turnout) (group a b : ℕ) → z ≤ 8 → (t.zone < 8 → t.drive ≤ 1 → a ≡ b)
    → turnout_kept z t group a ≡ turnout_kept z t group b
asked_of z t group a b limit same = go (ltb t.zone z) (leb t.drive 1) refl refl
  where
    rest : ℕ → Bool
    rest like = eqb t.group 255 || ltb t.group 32 && group_kept group like

    go :
        (x y : Bool) → ltb t.zone z ≡ x → leb t.drive 1 ≡ y
        → (x && y && rest a) ≡ (x && y && rest b)
    go true true e f =
        let zone = ltb-true t.zone z e in
        ap rest (same (omega (arith, zone, limit)) (leb-true t.drive 1 f))
    go true false e f = refl
    go false y e f = refl
