-- "A wrong group .. is reported at the first turnout that carries that number": the first bad record, if
-- it is good by itself, is the first carrier of its number.
use mathlib.Core.Bool.{Bool, true, false, not, ◌&&◌, ◌||◌, and-eq-true_iff, false≢true, or-true}
use mathlib.Core.Logic.{◌≢◌, inl, inr}
use mathlib.Core.Path.{◌≡◌, refl, sym, ap, ap₂, ◌∙◌}
use Prim.Native.Nat.{ℕ, ◌<◌}
use native.Mathlib.Omega.{arith}
use borrow.Author.Tests.{eqb-true, eq-eqb, ne_eqb, lt-ltb, ltb-true, not-true, not-false}
use lib.Dec.{eqb, ltb, leb}
use Rattle.sets.specs.Sets.{has, within, set_of, count}
use Rattle.sets.proofs.Members.{within-member}
use Rattle.sets.proofs.Ranges.{all-from, all_same}
use Rattle.sets.proofs.Finding.{found_from, before-from, same_first}
use Rattle.sets.proofs.Membership.{has-set_of}
use Rattle.station.specs.declared.Station.{Station}
use Rattle.station.specs.Station.{turnout_at, turnout_count, zone_count, zone_of, drive_of}
use Rattle.groups.specs.Groups.{carriers, carriers_among, tied, tied_among}
use Rattle.group_records.specs.GroupRecords.{alike, group_kept, good_turnout, bad_turnout}
use Rattle.group_records.specs.FirstCarrier.{good_alone, first_carrier, wrong_group, reported, EachReported}
use Rattle.layout.proofs.Joined.{three, either}

module _ (st : Station) where
  abbrev number : ℕ → ℕ
  number n = (turnout_at st n).group

  -- the turnouts tied to a carrier of a group's number
  tied-carriers : (n : ℕ) → n < turnout_count st → ltb (number n) 32 ≡ true → tied st n ≡ carriers st (number n)
  unfolding tied_among
  tied-carriers n l e = rw (lt-ltb n (turnout_count st) l, e)

  -- where a carrier of a number below 32 has a good group, another that is good by itself is good
  another :
      (k n : ℕ) → k < turnout_count st → n < turnout_count st → number k ≡ number n →
      good_turnout st k ≡ true → good_alone st n ≡ true → good_turnout st n ≡ true
  unfolding good_turnout alike carriers_among
  another k n lk ln e gk an =
      let own = three (ltb (zone_of st n) (zone_count st)) (leb (drive_of st n) 1)
      (eqb (number n) 255 || ltb (number n) 32) an in
      let kept = group_kept (tied st k) (alike st.turnouts st.turnout (turnout_at st k)) in
      let theirs = three (ltb (zone_of st k) (zone_count st)) (leb (drive_of st k) 1)
      (eqb (number k) 255 || ltb (number k) 32 && kept) gk in
      rw (own.0, own.1) (elim (either (eqb (number k) 255) (ltb (number k) 32 && kept) theirs.2) [
        | inl h ↦ rw (ap (λ (g : ℕ). eqb g 255) (sym e) ∙ h)
        | inr h ↦ grouped ((and-eq-true_iff (ltb (number k) 32) kept).0 h)
      ])
    where
      grouped : (ltb (number k) 32 ≡ true)
          × (group_kept (tied st k) (alike st.turnouts st.turnout (turnout_at st k)) ≡ true) →
          (eqb (number n) 255 || ltb (number n) 32
          && group_kept (tied st n) (alike st.turnouts st.turnout (turnout_at st n))) ≡ true
      grouped h =
          let small : ltb (number n) 32 ≡ true = ap (λ (g : ℕ). ltb g 32) (sym e) ∙ h.0 in
          let mine : tied st k ≡ carriers st (number k) = tied-carriers k lk h.0 in
          let same : tied st n ≡ tied st k = tied-carriers n ln small ∙ ap (carriers st) (sym e) ∙ sym mine in
          let test : ℕ → Bool = λ j. eqb (number j) (number k) in
          let in-carriers : has (carriers st (number k)) n ≡ true =
          has-set_of test (turnout_count st) n (omega arith)
          ∙ rw (lt-ltb n (turnout_count st) ln, eq-eqb (number n) (number k) (sym e)) in
          let inside : has (tied st k) n ≡ true = ap (λ (s : ℕ). has s n) mine ∙ in-carriers in
          let sizes = three (leb 2 (count (tied st k))) (leb (count (tied st k)) 8)
          (within (tied st k) (alike st.turnouts st.turnout (turnout_at st k))) h.1 in
          let alike-test : ℕ → Bool = λ j. eqb (zone_of st j) (zone_of st k) && eqb (drive_of st j) (drive_of st k) in
          let there =
          sym (has-set_of alike-test (turnout_count st) n (omega arith))
          ∙ within-member (tied st k) (alike st.turnouts st.turnout (turnout_at st k)) n sizes.2 inside in
          let both = (and-eq-true_iff (eqb (zone_of st n) (zone_of st k)) (eqb (drive_of st n) (drive_of st k))).0
          ((and-eq-true_iff (ltb n (turnout_count st)) (alike-test n)).0 there).1 in
          let like =
          ap₂ (λ (z d : ℕ). set_of (λ j. eqb (zone_of st j) z && eqb (drive_of st j) d) (turnout_count st))
          (eqb-true (zone_of st n) (zone_of st k) both.0) (eqb-true (drive_of st n) (drive_of st k) both.1) in
          let kept : group_kept (tied st n) (alike st.turnouts st.turnout (turnout_at st n)) ≡ true =
          ap₂ group_kept same like ∙ h.1 in
          rw (small, kept) (or-true (eqb (number n) 255))

  -- the record that is reported
  first-carrier :
      bad_turnout st < turnout_count st → good_alone st (bad_turnout st) ≡ true →
      (k : ℕ) → k < bad_turnout st → number k ≢ number (bad_turnout st)
  unfolding bad_turnout
  first-carrier l own k before e =
      let n = bad_turnout st in
      let p : ℕ → Bool = λ j. not (good_turnout st j) in
      let good = not-false (good_turnout st k) (before-from p 0 (turnout_count st) k (omega arith) before) in
      let bad = not-true (good_turnout st n) (found_from p 0 (turnout_count st) (omega arith)) in
      false≢true (sym bad ∙ another k n (omega arith) l e good own)

  abbrev kept : ℕ → Bool
  kept n = group_kept (tied st n) (alike st.turnouts st.turnout (turnout_at st n))

  -- what is reported is bad
  reported-bad : (n : ℕ) → reported st n ≡ true → not (good_turnout st n) ≡ true
  unfolding good_turnout
  reported-bad n =
      go (ltb (zone_of st n) (zone_count st)) (leb (drive_of st n) 1) (eqb (number n) 255)
      (ltb (number n) 32) (kept n) (first_carrier st n) refl refl
    where
      go :
          (z d alone small k f : Bool) → eqb (number n) 255 ≡ alone → ltb (number n) 32 ≡ small
          → (not (z && d && (alone || small)) || f && (small && not k)) ≡ true
          → not (z && d && (alone || small && k)) ≡ true
      go false d alone small k f e g h = refl
      go true false alone small k f e g h = refl
      go true true true true k f e g h =
          let is = eqb-true (number n) 255 e in
          let less = ltb-true (number n) 32 g in
          absurd (omega (arith, is, less))
      go true true true false k false e g h = absurd (false≢true h)
      go true true true false k true e g h = absurd (false≢true h)
      go true true false true true false e g h = absurd (false≢true h)
      go true true false true true true e g h = absurd (false≢true h)
      go true true false true false f e g h = refl
      go true true false false k f e g h = refl

  -- the first bad record is reported
  first-reported : bad_turnout st < turnout_count st → reported st (bad_turnout st) ≡ true
  unfolding bad_turnout good_turnout
  first-reported l =
      let n = bad_turnout st in
      let p : ℕ → Bool = λ j. not (good_turnout st j) in
      let bad = found_from p 0 (turnout_count st) (omega (arith, l)) in
      go (good_alone st n) refl (first_carrier st n) refl bad
    where
      carrier : good_alone st (bad_turnout st) ≡ true → first_carrier st (bad_turnout st) ≡ true
      carrier own =
          let n = bad_turnout st in
          all_same (λ k. not (eqb (number k) (number n))) (λ k. true) n
          (λ k before. ap not (ne_eqb (number k) (number n) (first-carrier l own k before)))
          ∙ all-from (λ k. true) 0 n (λ k h. refl)

      wrong :
          (z d alone small k : Bool) → (z && d && (alone || small)) ≡ true
          → not (z && d && (alone || small && k)) ≡ true → (small && not k) ≡ true
      wrong true true true small k own bad = absurd (false≢true bad)
      wrong true true false true true own bad = absurd (false≢true bad)
      wrong true true false true false own bad = refl
      wrong true true false false k own bad = absurd (false≢true own)
      wrong true false alone small k own bad = absurd (false≢true own)
      wrong false d alone small k own bad = absurd (false≢true own)

      go :
          (a : Bool) → good_alone st (bad_turnout st) ≡ a → (f : Bool)
          → first_carrier st (bad_turnout st) ≡ f → not (good_turnout st (bad_turnout st)) ≡ true
          → (not a || f && wrong_group st (bad_turnout st)) ≡ true
      go false e f g bad = refl
      go true e false g bad = absurd (false≢true (sym g ∙ carrier e))
      go true e true g bad =
          let n = bad_turnout st in
          wrong (ltb (zone_of st n) (zone_count st)) (leb (drive_of st n) 1) (eqb (number n) 255)
          (ltb (number n) 32) (kept n) e bad

pub first-is-reported : EachReported
unfolding bad_turnout
first-is-reported st =
    same_first (λ n. not (good_turnout st n)) (reported st) 0 (turnout_count st) (reported-bad st)
    (λ l. first-reported st (omega (arith, l)))
