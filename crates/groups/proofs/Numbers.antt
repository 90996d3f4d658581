-- The group numbers that turnouts of a set carry, and those that turnouts outside it carry: the set
-- splits a group exactly when some number is among both.
use mathlib.Core.Bool.{Bool, true, false, cond, not, ◌&&◌, ◌||◌, and-eq-true_iff, and-false, false≢true, or-true}
use mathlib.Core.Path.{◌≡◌, refl, sym, ap, ◌∙◌}
use mathlib.Core.List.{List}
use Prim.Native.Nat.{ℕ, zero, suc, ◌<◌}
use native.Mathlib.Nat.{le_refl, not-suc-le-zero}
use native.Mathlib.Omega.{arith}
use borrow.Author.Tests.{eqb-true, eqb-false, eq-eqb, ltb-true, lt-ltb, not-true}
use lib.Dec.{eqb, ltb}
use lib.Bits.{bit_and}
use Rattle.sets.specs.Range.{all_from}
use Rattle.sets.specs.Sets.{has, single, union, within, overlaps}
use Rattle.sets.proofs.Membership.{has-zero, has-and, has-or, has-single, has-set_of}
use Rattle.sets.proofs.Members.{within-member, disjoint-member, within_all, empty-all}
use Rattle.sets.proofs.Ranges.{all-below, all-from, all_same}
use Rattle.station.specs.declared.Turnout.{Turnout}
use Rattle.station.specs.declared.Station.{Station}
use Rattle.station.specs.Station.{turnout_count}
use Rattle.groups.specs.Groups.{number_in, carriers_among, tied_among, tied, whole, splits}

-- turnout k is below n, passes the test and carries the number g of a group
record Carrier (ts : List Turnout) (test : ℕ → Bool) (n g k : ℕ) : Type 0 where
  below : k < n
  passes : test k ≡ true
  small : ltb (number_in ts k) 32 ≡ true
  number : number_in ts k ≡ g

module _ (ts : List Turnout) (test : ℕ → Bool) where
  -- the group numbers that turnouts below n carry that pass the test
  unfoldable pub numbers_of : ℕ → ℕ
  numbers_of zero = 0
  numbers_of (suc n) =
      union (numbers_of n) (cond (test n && ltb (number_in ts n) 32) (single (number_in ts n)) 0)

  -- a number among them is carried
  carried : (n g : ℕ) → has (numbers_of n) g ≡ true → (k : ℕ) × Carrier ts test n g k
  unfolding numbers_of
  carried zero g h = absurd (false≢true (sym (has-zero g) ∙ h))
  carried (suc n) g h =
      go (has (numbers_of n) g) refl (test n && ltb m 32) refl
      (sym (has-or (numbers_of n) (cond (test n && ltb m 32) (single m) 0) g) ∙ h) (carried n g)
    where
      m : ℕ
      m = number_in ts n

      go :
          (a : Bool) → has (numbers_of n) g ≡ a → (b : Bool) → (test n && ltb m 32) ≡ b
          → (a || has (cond b (single m) 0) g) ≡ true
          → (has (numbers_of n) g ≡ true → (k : ℕ) × Carrier ts test n g k)
          → (k : ℕ) × Carrier ts test (suc n) g k
      go true e b f h earlier =
          let found = earlier e in
          let c = found.1 in
          let less = c.below in
          (found.0, record { below = omega (arith, less); passes = c.passes; small = c.small; number = c.number })
      go false e true f h earlier =
          let both = (and-eq-true_iff (test n) (ltb m 32)).0 f in
          let same = (and-eq-true_iff (ltb m 64) (eqb g m)).0 (sym (has-single m g) ∙ h) in (
            n,
            record {
              below = le_refl (suc n);
              passes = both.0;
              small = both.1;
              number = sym (eqb-true g m same.1);
            },
          )
      go false e false f h earlier = absurd (false≢true (sym (has-zero g) ∙ h))

  -- and what is carried is among them
  among : (n g k : ℕ) → Carrier ts test n g k → has (numbers_of n) g ≡ true
  unfolding numbers_of
  among zero g k c = absurd (not-suc-le-zero c.below)
  among (suc n) g k c =
      has-or (numbers_of n) (cond (test n && ltb m 32) (single m) 0) g
      ∙ go (eqb k n) refl (among n g k)
    where
      m : ℕ
      m = number_in ts n

      last : Bool
      last = has (cond (test n && ltb m 32) (single m) 0) g

      go :
          (b : Bool) → eqb k n ≡ b → (Carrier ts test n g k → has (numbers_of n) g ≡ true)
          → (has (numbers_of n) g || last) ≡ true
      go true e earlier =
          let here : k ≡ n = eqb-true k n e in
          let passes : test n ≡ true = ap test (sym here) ∙ c.passes in
          let small : ltb m 32 ≡ true = ap (λ (j : ℕ). ltb (number_in ts j) 32) (sym here) ∙ c.small in
          let number : g ≡ m = sym c.number ∙ ap (number_in ts) here in
          let below = ltb-true m 32 small in
          let in-it : has (single m) g ≡ true =
          has-single m g ∙ rw (lt-ltb m 64 (omega (arith, below)), eq-eqb g m number) in
          let found : last ≡ true = rw (passes, small) in-it in
          rw found (or-true (has (numbers_of n) g))
      go false e earlier =
          let other = eqb-false k n e in
          let less = c.below in
          let still : k < n = omega (arith, less, other) in
          let found = earlier (record { below = still; passes = c.passes; small = c.small; number = c.number }) in
          rw found

-- a group with one turnout in s and one outside it is not whole
broken :
    (s group a b : ℕ) → has group a ≡ true → has group b ≡ true → has s a ≡ true
    → has s b ≡ false → whole group s ≡ true → ⊥
broken s group a b ga gb sa sb h = go (within group s) refl (overlaps group s) refl h
  where
    go :
        (x : Bool) → within group s ≡ x → (y : Bool) → overlaps group s ≡ y → (x || not y) ≡ true → ⊥
    go true e y f h = false≢true (sym sb ∙ within-member group s b e gb)
    go false e true f h = false≢true h
    go false e false f h = false≢true (sym (disjoint-member group s a f ga) ∙ sa)

-- a set whose turnouts of a group are all in s, or all outside it, with turnout n, takes it whole or
-- not at all
whole_by :
    (group s n : ℕ) → ((j : ℕ) → has group j ≡ true → has s j ≡ has s n) → whole group s ≡ true
whole_by group s n side = go (has s n) refl
  where
    go : (b : Bool) → has s n ≡ b → whole group s ≡ true
    go true e = rw (within_all group s (λ j m. side j m ∙ e))
    go false e =
        rw (empty-all (bit_and group s) (λ j. none j (has group j) refl)) (or-true (within group s))
      where
        none : (j : ℕ) (b : Bool) → has group j ≡ b → has (bit_and group s) j ≡ false
        none j true m = has-and group s j ∙ rw m (side j m ∙ e)
        none j false m = has-and group s j ∙ rw m

module _ (st : Station) (s : ℕ) where
  abbrev p : ℕ
  p = turnout_count st

  abbrev ts : List Turnout
  ts = st.turnout

  abbrev outside : ℕ → Bool
  outside k = not (has s k)

  abbrev taken : ℕ
  taken = numbers_of ts (has s) p

  abbrev left : ℕ
  left = numbers_of ts outside p

  -- what is tied to a turnout of a group: those that carry its number
  has-group :
      (n j : ℕ) → n < p → ltb (number_in ts n) 32 ≡ true
      → has (tied st n) j ≡ (ltb j p && eqb (number_in ts j) (number_in ts n))
  unfolding tied_among carriers_among
  has-group n j l small =
      rw (lt-ltb n p l, small)
      (has-set_of (λ k. eqb (number_in ts k) (number_in ts n)) p j (omega arith))

  -- and to any other: itself
  has-alone :
      (n j : ℕ) → ltb (number_in ts n) 32 ≡ false → has (tied st n) j ≡ true → j ≡ n
  unfolding tied_among
  has-alone n j large m =
      let alone : tied st n ≡ single n = rw (large, and-false (ltb n p)) in
      let in-it = sym (ap (λ (g : ℕ). has g j) alone ∙ has-single n j) ∙ m in
      eqb-true j n ((and-eq-true_iff (ltb n 64) (eqb j n)).0 in-it).1

  abbrev test : ℕ → Bool
  test n = whole (tied st n) s

  -- where each group is whole, no number is among both
  apart : all_from test 0 p ≡ true → overlaps taken left ≡ false
  apart h = ap not (empty-all (bit_and taken left) each)
    where
      clash : (g : ℕ) → has taken g ≡ true → has left g ≡ true → ⊥
      clash g e f =
          let a = carried ts (has s) p g e in
          let b = carried ts outside p g f in
          let here = all-below test p h a.0 a.1.below in
          let first : has (tied st a.0) a.0 ≡ true =
          has-group a.0 a.0 a.1.below a.1.small
          ∙ rw (lt-ltb a.0 p a.1.below, eq-eqb (number_in ts a.0) (number_in ts a.0) refl) in
          let second : has (tied st a.0) b.0 ≡ true =
          has-group a.0 b.0 a.1.below a.1.small
          ∙ rw (
            lt-ltb b.0 p b.1.below,
            eq-eqb (number_in ts b.0) (number_in ts a.0) (b.1.number ∙ sym a.1.number),
          ) in
          broken s (tied st a.0) a.0 b.0 first second a.1.passes
          (not-true (has s b.0) b.1.passes) here

      each : (g : ℕ) → has (bit_and taken left) g ≡ false
      each g = has-and taken left g ∙ go (has taken g) refl (has left g) refl
        where
          go : (a : Bool) → has taken g ≡ a → (b : Bool) → has left g ≡ b → (a && b) ≡ false
          go true e true f = absurd (clash g e f)
          go true e false f = refl
          go false e b f = refl

  -- two turnouts of one group are both in s or both outside it, where no number is among both
  agree :
      overlaps taken left ≡ false → (n j : ℕ) → n < p → j < p → ltb (number_in ts n) 32 ≡ true
      → number_in ts j ≡ number_in ts n → has s j ≡ has s n
  agree h n j ln lj small same = go (has s j) refl (has s n) refl
    where
      small-j : ltb (number_in ts j) 32 ≡ true
      small-j = ap (λ (g : ℕ). ltb g 32) same ∙ small

      clash :
          (a b : ℕ) → a < p → b < p → has s a ≡ true → has s b ≡ false
          → ltb (number_in ts a) 32 ≡ true → ltb (number_in ts b) 32 ≡ true
          → number_in ts a ≡ number_in ts b → ⊥
      clash a b la lb sa sb ga gb e =
          let g = number_in ts b in
          let one = among ts (has s) p g a (record { below = la; passes = sa; small = ga; number = e }) in
          let out : outside b ≡ true = ap not sb in
          let two = among ts outside p g b (record { below = lb; passes = out; small = gb; number = refl }) in
          false≢true (sym (disjoint-member taken left g h one) ∙ two)

      go : (a : Bool) → has s j ≡ a → (b : Bool) → has s n ≡ b → has s j ≡ has s n
      go true e true f = e ∙ sym f
      go false e false f = e ∙ sym f
      go true e false f = absurd (clash j n lj ln e f small-j small same)
      go false e true f = absurd (clash n j ln lj f e small small-j (sym same))

  -- where no number is among both, each group is whole
  together : overlaps taken left ≡ false → all_from test 0 p ≡ true
  together h =
      all_same test (λ n. true) p
      (λ n l. whole_by (tied st n) s n (λ j m. side n j l (ltb (number_in ts n) 32) refl m))
      ∙ all-from (λ n. true) 0 p (λ n l. refl)
    where
      side :
          (n j : ℕ) → n < p → (b : Bool) → ltb (number_in ts n) 32 ≡ b → has (tied st n) j ≡ true
          → has s j ≡ has s n
      side n j l true small m =
          let both =
          (and-eq-true_iff (ltb j p) (eqb (number_in ts j) (number_in ts n))).0
          (sym (has-group n j l small) ∙ m) in
          agree h n j l (ltb-true j p both.0) small
          (eqb-true (number_in ts j) (number_in ts n) both.1)
      side n j l false large m = ap (has s) (has-alone n j large m)

  pub splits-numbers : splits st s ≡ overlaps taken left
  unfolding splits
  splits-numbers = go (all_from test 0 p) refl (overlaps taken left) refl
    where
      go :
          (a : Bool) → all_from test 0 p ≡ a → (b : Bool) → overlaps taken left ≡ b → not a ≡ b
      go true e true f = absurd (false≢true (sym (apart e) ∙ f))
      go true e false f = refl
      go false e true f = refl
      go false e false f = absurd (false≢true (sym e ∙ together f))
