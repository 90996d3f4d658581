-- The 64 places of a table of records, filled up to a count: one place more, and what stands at
-- each place.
use mathlib.Core.Bool.{Bool, true, false, cond}
use mathlib.Core.Logic.{◌≢◌}
use mathlib.Core.Path.{◌≡◌, refl, sym, ap, ◌∙◌}
use Prim.Native.Nat.{ℕ, zero, suc, ◌+◌, ◌≤◌, ◌<◌, min}
use native.Mathlib.Nat.{add-zero, zero-add, add_assoc, le_of_suc-le-suc, not-suc-le-zero}
use native.Mathlib.Numerals.{one-add}
use native.Mathlib.Omega.{arith}
use borrow.Author.Tests.{eqb-true, eqb-false, lt-ltb, le-ltb, ltb-true, ltb-false}
use lib.Dec.{eqb, ltb}
use lib.ListN.{length, get_or, set, replicate, length-set, get_or-eq_default}
use lib.Seq.{ext_get_or, get_or-set_same, get_or-set_other}
use Rattle.sets.specs.Table.{values_from, places}

module _ {A : Type 0} where
  pub length-values : (f : ℕ → A) (i k : ℕ) → length (values_from f i k) ≡ k
  unfolding values_from
  length-values f i zero = refl
  length-values f i (suc k) = ap suc (length-values f (i + 1) k)

  pub get_d-values :
      (f : ℕ → A) (i k j : ℕ) (e : A) → j < k → get_or (values_from f i k) j e ≡ f (i + j)
  unfolding values_from
  get_d-values f i zero j e h = absurd (not-suc-le-zero h)
  get_d-values f i (suc k) zero e h = ap f (sym (add-zero i))
  get_d-values f i (suc k) (suc j) e h =
      get_d-values f (i + 1) k j e (le_of_suc-le-suc h)
      ∙ ap f (add_assoc i 1 j ∙ ap (λ (m : ℕ). i + m) (one-add j))

  -- what place i of the table holds
  abbrev placed : (ℕ → A) → ℕ → A → ℕ → A
  placed f n e i = cond (ltb i n) (f i) e

  pub length-places : (f : ℕ → A) (n : ℕ) (e : A) → length (places f n e) ≡ 64
  unfolding places
  length-places f n e = length-values (placed f n e) 0 64

  pub get_d-places :
      (f : ℕ → A) (n : ℕ) (e : A) (i : ℕ) (d : A) → i < 64 →
      get_or (places f n e) i d ≡ placed f n e i
  unfolding places
  get_d-places f n e i d h = get_d-values (placed f n e) 0 64 i d h ∙ ap (placed f n e) (zero-add i)

  -- no place filled
  pub places-none : (f : ℕ → A) (e : A) → places f 0 e ≡ replicate 64 e
  unfolding places values_from
  places-none f e = refl

  -- one place more
  pub places-next :
      (f : ℕ → A) (i : ℕ) (e : A) → i < 64 → set (places f i e) i (f i) ≡ places f (i + 1) e
  places-next f i e h =
      ext_get_or e (set (places f i e) i (f i)) (places f (i + 1) e)
      (length-set (places f i e) i (f i) ∙ length-places f i e ∙ sym (length-places f (i + 1) e))
      (λ j l. at j (rw (length-set, length-places f i e) at l) (eqb j i) refl)
    where
      here : get_or (set (places f i e) i (f i)) i e ≡ get_or (places f (i + 1) e) i e
      here =
          get_or-set_same (places f i e) i (f i) e (rw (length-places f i e) h)
          ∙ sym (get_d-places f (i + 1) e i e h
          ∙ ap (λ (b : Bool). cond b (f i) e) (lt-ltb i (i + 1) (omega arith)))

      test : (j : ℕ) → j ≢ i → (b : Bool) → ltb j i ≡ b → ltb j i ≡ ltb j (i + 1)
      test j other true q =
          let l : j < i = ltb-true j i q in q ∙ sym (lt-ltb j (i + 1) (omega arith))
      test j other false q =
          let l : i ≤ j = ltb-false j i q in q ∙ sym (le-ltb j (i + 1) (omega arith))

      at :
          (j : ℕ) → j < 64 → (b : Bool) → eqb j i ≡ b →
          get_or (set (places f i e) i (f i)) j e ≡ get_or (places f (i + 1) e) j e
      at j l true q = rw (eqb-true j i q) here
      at j l false q =
          get_or-set_other (places f i e) i j (f i) e (eqb-false j i q) ∙ get_d-places f i e j e l
          ∙ ap (λ (b : Bool). cond b (f j) e) (test j (eqb-false j i q) (ltb j i) refl)
          ∙ sym (get_d-places f (i + 1) e j e l)

  -- past the last place nothing is filled
  pub places-limit : (f : ℕ → A) (n : ℕ) (e : A) → places f (min n 64) e ≡ places f n e
  places-limit f n e =
      ext_get_or e (places f (min n 64) e) (places f n e)
      (length-places f (min n 64) e ∙ sym (length-places f n e))
      (λ j l. at j (rw (length-places f (min n 64) e) at l))
    where
      test : (j : ℕ) → j < 64 → (b : Bool) → ltb j n ≡ b → ltb j (min n 64) ≡ ltb j n
      test j l true q =
          let below : j < n = ltb-true j n q in lt-ltb j (min n 64) (omega arith) ∙ sym q
      test j l false q =
          let past : n ≤ j = ltb-false j n q in le-ltb j (min n 64) (omega arith) ∙ sym q

      at : (j : ℕ) → j < 64 → get_or (places f (min n 64) e) j e ≡ get_or (places f n e) j e
      at j l =
          get_d-places f (min n 64) e j e l
          ∙ ap (λ (b : Bool). cond b (f j) e) (test j l (ltb j n) refl)
          ∙ sym (get_d-places f n e j e l)

  -- from the count on every place holds e
  pub places-past : (f : ℕ → A) (n : ℕ) (e : A) (i : ℕ) → n ≤ i → get_or (places f n e) i e ≡ e
  places-past f n e i h = go (ltb i 64) refl
    where
      go : (b : Bool) → ltb i 64 ≡ b → get_or (places f n e) i e ≡ e
      go true q = get_d-places f n e i e (ltb-true i 64 q) ∙ rw (le-ltb i n h)
      go false q =
          get_or-eq_default (places f n e) e (rw (length-places f n e) (ltb-false i 64 q))

  -- and below it what was filled in
  pub places-below :
      (f : ℕ → A) (n : ℕ) (e : A) (i : ℕ) → i < min n 64 → get_or (places f n e) i e ≡ f i
  places-below f n e i l =
      get_d-places f n e i e (omega arith) ∙ rw (lt-ltb i n (omega arith))
