-- The ends of the crossovers of a sheet of version 1: as many lower as upper ones, 32 at most; a
-- crossover is known by its lower end, and by how many lower ends stand below that.
use mathlib.Core.Bool.{Bool, true, false, ◌&&◌}
use mathlib.Core.Logic.{◌⊎◌, inl, inr}
use mathlib.Core.Path.{◌≡◌, refl, sym, ap, ◌∙◌}
use Prim.Native.Nat.{ℕ, ◌+◌, ◌*◌, ◌≤◌, ◌<◌, min}
use native.Mathlib.Omega.{arith}
use borrow.Author.Tests.{eqb-true, eq-eqb, lt-ltb, ltb-true, ltb-false}
use lib.Dec.{eqb, ltb}
use Rattle.sets.proofs.Totals.{total, bit, total-same, total-add, total-swap, total-one, total-limit}
use Rattle.sets.proofs.Totals.{total-passes}
use Rattle.station.specs.declared.Station.{Station}
use Rattle.layout.proofs.Joined.{same_test}
use Rattle.partner_records.specs.Crossovers.{Partnered, Crossover}
use Rattle.partner_records.specs.PartnerRecords.{partner_of}

-- 1 for the lower end of a crossover
abbrev pub lower_at : Station → ℕ → ℕ
lower_at st x = bit (ltb (partner_of st x) st.turnouts && ltb x (partner_of st x))

-- the lower end of the crossover of turnout n
abbrev pub low_end : Station → ℕ → ℕ
low_end st n = min n (partner_of st n)

-- how many crossovers have a lower end below m
abbrev pub pairs_below : Station → ℕ → ℕ
pairs_below st m = total (lower_at st) m

-- the station of a sheet of version 1 whose turnouts are good
module _ (st : Station) (limit : st.turnouts ≤ 64) (good : (n : ℕ) → n < st.turnouts → Partnered st n) where
  abbrev p : ℕ
  p = st.turnouts

  abbrev other : ℕ → ℕ
  other n = partner_of st n

  -- a turnout with a partner below P is an end of a crossover
  pub paired : (n : ℕ) → n < p → other n < p → Crossover st n
  paired n l below = elim (good n l).partner [ inl e ↦ absurd (omega arith) | inr c ↦ c ]

  -- and any other is alone
  pub alone-or : (k : ℕ) → k < p → (other k ≡ 255) ⊎ (other k < p)
  alone-or k lk = elim (good k lk).partner [ inl e ↦ inl e | inr c ↦ inr c.below ]

  -- each names the other back
  mirror : (x y : ℕ) → x < p → y < p → eqb y (other x) ≡ eqb x (other y)
  mirror x y lx ly =
      same_test (eqb y (other x)) (eqb x (other y)) (λ e. turn x y lx ly (eqb-true y (other x) e))
      (λ e. turn y x ly lx (eqb-true x (other y) e))
    where
      turn : (x y : ℕ) → x < p → y < p → y ≡ other x → eqb x (other y) ≡ true
      turn x y lx ly e =
          let below : other x < p = rw (← e) ly in
          eq-eqb x (other y) (sym (ap other e ∙ (paired x lx below).back))

  -- how many lower ends and how many upper ends there are
  abbrev lower : ℕ → ℕ
  lower x = lower_at st x

  abbrev upper : ℕ → ℕ
  upper x = bit (ltb (other x) p && ltb (other x) x)

  as_many : total lower p ≡ total upper p
  as_many =
      total-same lower (λ x. total (λ y. bit (eqb y (other x) && ltb x y)) p) p
      (λ x l. sym (total-one (ltb x) (other x) p))
      ∙ total-swap (λ x y. bit (eqb y (other x) && ltb x y)) p p
      ∙ total-same (λ y. total (λ x. bit (eqb y (other x) && ltb x y)) p) upper p column
    where
      column : (y : ℕ) → y < p → total (λ x. bit (eqb y (other x) && ltb x y)) p ≡ upper y
      column y ly =
          total-same (λ x. bit (eqb y (other x) && ltb x y)) (λ x. bit (eqb x (other y) && ltb x y)) p
          (λ x lx. ap (λ (b : Bool). bit (b && ltb x y)) (mirror x y lx ly))
          ∙ total-one (λ x. ltb x y) (other y) p

  one_end : (x : ℕ) → lower x + upper x ≤ 1
  one_end x = go (ltb (other x) p) (ltb x (other x)) (ltb (other x) x) refl refl
    where
      go : (a b c : Bool) → ltb x (other x) ≡ b → ltb (other x) x ≡ c → bit (a && b) + bit (a && c) ≤ 1
      go true true true e f =
          let l = ltb-true x (other x) e in
          let k = ltb-true (other x) x f in
          absurd (omega arith)
      go false b c e f = omega arith
      go true false true e f = omega arith
      go true false false e f = omega arith
      go true true false e f = omega arith

  pub few : 2 * total lower p ≤ 64
  few =
      let all = total-limit (λ x. lower x + upper x) p (λ x l. one_end x) in
      let parts = total-add lower upper p in
      omega (arith, as_many, all, parts)

  abbrev low : ℕ → ℕ
  low n = low_end st n

  -- the lower end of the crossover of n is n or its partner
  which : (n : ℕ) → n < p → other n < p → ((low n ≡ n) × (n < other n)) ⊎ ((low n ≡ other n) × (other n < n))
  which n l below = go (ltb n (other n)) refl
    where
      go : (b : Bool) → ltb n (other n) ≡ b → ((low n ≡ n) × (n < other n)) ⊎ ((low n ≡ other n) × (other n < n))
      go true e = let h = ltb-true n (other n) e in inl (omega arith)
      go false e =
          let h = ltb-false n (other n) e in
          let two = (paired n l below).other in
          inr (omega arith)

  -- and it is a lower end
  pub low-end : (n : ℕ) → n < p → other n < p → (low n < p) × (lower (low n) ≡ 1)
  low-end n l below =
      elim (which n l below) [
        | inl h ↦ rw h.0 (l, ends n below h.1)
        | inr h ↦ rw h.0 (
          below,
          ends (other n) (rw (paired n l below).back l)
              (rw (paired n l below).back h.1),
        )
      ]
    where
      ends : (m : ℕ) → other m < p → m < other m → lower m ≡ 1
      ends m b h = rw (lt-ltb (other m) p b, lt-ltb m (other m) h)

  abbrev pairs : ℕ → ℕ
  pairs m = pairs_below st m

  -- two crossovers of one number have one lower end
  pub same_low : (n k : ℕ) → n < p → other n < p → k < p → other k < p → pairs (low n) ≡ pairs (low k) → low n ≡ low k
  same_low n k ln bn lk bk e = go (ltb (low n) (low k)) (ltb (low k) (low n)) refl refl
    where
      go : (a b : Bool) → ltb (low n) (low k) ≡ a → ltb (low k) (low n) ≡ b → low n ≡ low k
      go true b ea eb =
          let more = total-passes lower (low n) (low k) (ltb-true (low n) (low k) ea) (low-end n ln bn).1 in
          absurd (omega (arith, more, e))
      go false true ea eb =
          let more = total-passes lower (low k) (low n) (ltb-true (low k) (low n) eb) (low-end k lk bk).1 in
          absurd (omega (arith, more, e))
      go false false ea eb = omega (arith, ltb-false (low n) (low k) ea, ltb-false (low k) (low n) eb)

  -- .. so they are one crossover
  pub same-pair : (n k : ℕ) → n < p → other n < p → k < p → other k < p → low n ≡ low k → (k ≡ n) ⊎ (k ≡ other n)
  same-pair n k ln bn lk bk e =
      elim (which n ln bn) [
        | inl hn ↦ elim (which k lk bk) [
          | inl hk ↦ inl (sym hk.0 ∙ sym e ∙ hn.0)
          | inr hk ↦ inr (sym (ap other (sym hn.0 ∙ e ∙ hk.0) ∙ (paired k lk bk).back))
        ]
        | inr hn ↦ elim (which k lk bk) [
          | inl hk ↦ inr (sym hk.0 ∙ sym e ∙ hn.0)
          | inr hk ↦ inl (sym (paired k lk bk).back ∙ ap other (sym hk.0 ∙ sym e ∙ hn.0) ∙ (paired n ln bn).back)
        ]
      ]
