-- The crossovers of a sheet of version 1 as groups: both ends have one number, which no other turnout
-- has.
use mathlib.Core.Bool.{Bool, true, false, cond, ◌&&◌, ◌||◌}
use mathlib.Core.Logic.{◌⊎◌, inl, inr}
use mathlib.Core.Path.{◌≡◌, refl, sym, ap, ap₂, ◌∙◌}
use Prim.Native.Nat.{ℕ, ◌≤◌, ◌<◌}
use native.Mathlib.Omega.{arith}
use borrow.Author.Tests.{eqb-true, eq-eqb, ne_eqb, lt-ltb, le-ltb, ltb-true, ltb-false}
use lib.Dec.{eqb, ltb}
use lib.Bits.{or_zero_r}
use Rattle.sets.specs.Range.{count_from}
use Rattle.sets.specs.Sets.{has, single, union, set_of}
use Rattle.sets.proofs.Membership.{has-or, has-set_of}
use Rattle.sets.proofs.Members.{same-all}
use Rattle.sets.proofs.Sizes.{has_one}
use Rattle.sets.proofs.Tables.{get_d-places}
use Rattle.sets.proofs.Totals.{total, bit, count-total, total-passes}
use Rattle.station.specs.declared.Turnout.{Turnout}
use Rattle.station.specs.declared.Station.{Station}
use Rattle.station.specs.Station.{empty_turnout, turnout_at, turnout_count}
use Rattle.groups.specs.Groups.{carriers_among, carriers, tied_among, tied}
use Rattle.layout.proofs.Joined.{same_test}
use Rattle.partner_records.specs.Crossovers.{Partnered, pair_of}
use Rattle.partner_records.specs.PartnerRecords.{partner_of, lower_end, pair_number, with_number}
use Rattle.partner_records.specs.PartnerRecords.{renumbered}
use Rattle.partner_records.proofs.Ends.{lower_at, low_end, pairs_below, paired, alone-or, few}
use Rattle.partner_records.proofs.Ends.{low-end, same_low, same-pair}

-- the station of a sheet of version 1 whose turnouts are good
module _ (st : Station) (limit : st.turnouts ≤ 64) (good : (n : ℕ) → n < st.turnouts → Partnered st n) where
  abbrev p : ℕ
  p = st.turnouts

  abbrev other : ℕ → ℕ
  other n = partner_of st n

  abbrev low : ℕ → ℕ
  low n = low_end st n

  abbrev pairs : ℕ → ℕ
  pairs m = pairs_below st m

  counted : turnout_count st ≡ p
  counted = omega arith

  counted-pairs : (m : ℕ) → count_from (lower_end st) 0 m ≡ pairs m
  counted-pairs m = count-total (lower_end st) m
      ∙ ap (λ (c : ℕ). total (λ x. bit (ltb (other x) c && ltb x (other x))) m) counted

  pub number-alone : (n : ℕ) → other n ≡ 255 → pair_number st n ≡ 255
  unfolding pair_number
  number-alone n e = rw (eq-eqb (other n) 255 e)

  number-pair : (n : ℕ) → other n < p → pair_number st n ≡ pairs (low n)
  unfolding pair_number
  number-pair n below =
      let shared : eqb (other n) 255 ≡ false = ne_eqb (other n) 255 (λ e. omega arith) in
      rw shared (counted-pairs (low n))

  -- the numbers are those of groups
  pub number_small : (n : ℕ) → n < p → other n < p → pair_number st n < 32
  number_small n l below =
      let ends = low-end st limit good n l below in
      let less = total-passes (lower_at st) (low n) p ends.0 ends.1 in
      rw (number-pair n below) (omega (arith, less, few st limit good))

  -- both ends have one number, and no other turnout has it
  pub same_number :
      (n k : ℕ) → n < p → other n < p → k < p → eqb (pair_number st k) (pair_number st n) ≡ (eqb k n || eqb k (other n))
  same_number n k ln bn lk =
      same_test (eqb (pair_number st k) (pair_number st n)) (eqb k n || eqb k (other n))
      (λ e. ends (alone-or st limit good k lk) (eqb-true (pair_number st k) (pair_number st n) e))
      (λ e. eq-eqb (pair_number st k) (pair_number st n) (numbers (eqb k n) refl e))
    where
      found : (k ≡ n) ⊎ (k ≡ other n) → (eqb k n || eqb k (other n)) ≡ true
      found (inl e) = rw (eq-eqb k n e)
      found (inr e) = or_right (eqb k n) (eq-eqb k (other n) e)
        where
          or_right : (a : Bool) {b : Bool} → b ≡ true → (a || b) ≡ true
          or_right true e = refl
          or_right false e = e

      ends : (other k ≡ 255) ⊎ (other k < p) → pair_number st k ≡ pair_number st n → (eqb k n || eqb k (other n)) ≡ true
      ends (inl a) e =
          let small = number_small n ln bn in
          let large = number-alone k a in
          absurd (omega (arith, small, large, e))
      ends (inr bk) e =
          found (same-pair st limit good n k ln bn lk bk
          (same_low st limit good n k ln bn lk bk (sym (number-pair n bn) ∙ sym e ∙ number-pair k bk)))

      numbers : (b : Bool) → eqb k n ≡ b → (b || eqb k (other n)) ≡ true → pair_number st k ≡ pair_number st n
      numbers true q e = ap (pair_number st) (eqb-true k n q)
      numbers false q e =
          let is : k ≡ other n = eqb-true k (other n) e in
          let back = (paired st limit good n ln bn).back in
          let low_same : low (other n) ≡ low n = rw back (omega arith) in
          ap (pair_number st) is ∙ number-pair (other n) (rw back ln) ∙ ap pairs low_same ∙ sym (number-pair n bn)

  -- the record of a turnout after renumbering
  pub renumbered-at : (k : ℕ) → k < p → turnout_at (renumbered st) k ≡ with_number (turnout_at st k) (pair_number st k)
  unfolding renumbered
  renumbered-at k l =
      get_d-places (λ n. with_number (turnout_at st n) (pair_number st n)) p empty_turnout k empty_turnout
      (omega arith) ∙ rw (lt-ltb k p l)

  pub count_kept : turnout_count (renumbered st) ≡ turnout_count st
  unfolding renumbered
  count_kept = refl

  -- the carriers of a crossover's number are its ends
  pub carriers-pair :
      (n : ℕ) → n < p → other n < p → carriers (renumbered st) (pair_number st n) ≡ union (single n) (single (other n))
  unfolding carriers_among
  carriers-pair n ln bn =
      same-all (set_of test (turnout_count (renumbered st))) (union (single n) (single (other n))) each
    where
      test : ℕ → Bool
      test k = eqb (partner_of (renumbered st) k) (pair_number st n)

      ends : (k : ℕ) → has (union (single n) (single (other n))) k ≡ (eqb k n || eqb k (other n))
      ends k =
          has-or (single n) (single (other n)) k
          ∙ ap₂ (λ (a b : Bool). a || b)
          (has_one n k (omega arith)) (has_one (other n) k (omega arith))

      each : (k : ℕ) → has (set_of test (turnout_count (renumbered st))) k ≡ has (union (single n) (single (other n))) k
      each k =
          has-set_of test (turnout_count (renumbered st)) k (rw count_kept (omega arith))
          ∙ ap (λ (m : ℕ). ltb k m && test k) (count_kept ∙ counted) ∙ go (ltb k p) refl ∙ sym (ends k)
        where
          go : (b : Bool) → ltb k p ≡ b → (b && test k) ≡ (eqb k n || eqb k (other n))
          go true q =
              let lk = ltb-true k p q in
              ap (λ (t : Turnout). eqb t.group (pair_number st n)) (renumbered-at k lk) ∙ same_number n k ln bn lk
          go false q =
              let past = ltb-false k p q in
              sym (ap₂ (λ (a b : Bool). a || b) (ne_eqb k n (λ e. omega arith))
              (ne_eqb k (other n) (λ e. omega arith)))

  -- after renumbering the turnouts tied to one are those that document 01 ties to it
  pub same-tied : (n : ℕ) → n < p → tied (renumbered st) n ≡ pair_of st n
  unfolding tied_among
  same-tied n l = ap₂ by (count_kept ∙ counted) number
      ∙ elim (alone-or st limit good n l) [ inl e ↦ alone e | inr b ↦ pair b ]
    where
      by : ℕ → ℕ → ℕ
      by c g = cond (ltb n c && ltb g 32) (carriers (renumbered st) g) (single n)

      number : partner_of (renumbered st) n ≡ pair_number st n
      number = ap (λ (t : Turnout). t.group) (renumbered-at n l)

      alone : other n ≡ 255
          → by p (pair_number st n) ≡ union (single n) (cond (ltb (other n) (turnout_count st)) (single (other n)) 0)
      alone e =
          ap (by p) (number-alone n e)
          ∙ rw (lt-ltb n p l, le-ltb (other n) (turnout_count st) (omega arith)) (sym (or_zero_r (single n)))

      pair : other n < p → by p (pair_number st n)
          ≡ union (single n) (cond (ltb (other n) (turnout_count st)) (single (other n)) 0)
      pair b =
          rw (
            lt-ltb n p l,
            lt-ltb (pair_number st n) 32 (number_small n l b),
            lt-ltb (other n) (turnout_count st)
                (omega arith),
          )
          (carriers-pair n l b)
