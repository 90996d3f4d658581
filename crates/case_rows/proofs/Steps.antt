-- Laws of repeated steps, of a byte within a list, and of names: a name lies within the text.
use Rattle.std.proofs.Common.{◌≡◌, ℕ, zero, suc, ◌+◌, ◌-◌, ◌^◌, ◌<◌, ◌≤◌, Bool, true, false, ltb, leb, List, [], ◌∷◌, length, get_or, refl, ap, ◌∙◌, le_refl, le_of_suc-le-suc, not-suc-le-zero, mod-eq_of_lt, arith, ltb-false, ltb-true, leb-false}
use lib.ListN.{get_or-eq_default}
use Rattle.case_rows.specs.Rows.{repeated, byte_at, after, after_letter}

module _ {A : Type 0} (step : A → A) (n i : ℕ) {whole a : A} where
  -- what the steps from step i on give is what those after it give, once it is done
  pub next-step :
      {b : A} → whole ≡ repeated (n - i) step a → i < n → b ≡ step a →
      whole ≡ repeated (n - (i + 1)) step b
  unfolding repeated
  next-step e more done =
      let left : n - i ≡ suc (n - (i + 1)) = omega arith in
      e ∙ ap (λ (k : ℕ). repeated k step a) left ∙ rw done

  -- no step is left
  pub last_step : whole ≡ repeated (n - i) step a → n ≤ i → a ≡ whole
  unfolding repeated
  last_step e ended =
      let left : n - i ≡ 0 = omega arith in
      rw (e, left)

-- within a list the value past its end does not count
pub within : (s : List ℕ) (at d e : ℕ) → at < length s → get_or s at d ≡ get_or s at e
within [] at d e h = absurd (not-suc-le-zero h)
within (x ∷ s) zero d e h = refl
within (x ∷ s) (suc at) d e h = within s at d e (le_of_suc-le-suc h)

-- a step through a name stays within the text: past it no byte is part of a name
letter-within :
    (s : List ℕ) (at : ℕ) → length s < 2 ^ 64 → at ≤ length s →
    (at ≤ after_letter s at) × (after_letter s at ≤ length s)
unfolding after_letter byte_at
letter-within s at fits h = go (leb (byte_at s at) 32) refl (ltb at (length s)) refl
  where
    go :
        (low : Bool) → leb (byte_at s at) 32 ≡ low → (more : Bool) → ltb at (length s) ≡ more →
        (at ≤ after_letter s at) × (after_letter s at ≤ length s)
    go true e more f = rw e (le_refl at, h)
    go false e true f =
        let here = ltb-true at (length s) f in
        let next : after at ≡ at + 1 = mod-eq_of_lt (omega arith) in
        rw (e, next) (omega arith, omega arith)
    go false e false f =
        let ended : byte_at s at ≡ 10 = get_or-eq_default s 10 (ltb-false at (length s) f) in
        absurd (omega (arith, ended, leb-false (byte_at s at) 32 e))

pub name-within :
    (n : ℕ) (s : List ℕ) (at : ℕ) → length s < 2 ^ 64 → at ≤ length s →
    (at ≤ repeated n (after_letter s) at) × (repeated n (after_letter s) at ≤ length s)
unfolding repeated
name-within zero s at fits h = (le_refl at, h)
name-within (suc n) s at fits h =
    let one = letter-within s at fits h in
    let rest = name-within n s (after_letter s at) fits one.1 in
    (omega (arith, one.0, rest.0), rest.1)
