-- The panel's answer is the refusal by 9 where its limits are passed, and else the desk's answer.
use mathlib.Core.Bool.{Bool, true, false, cond, not, ◌&&◌, and-false, and-eq-true_iff}
use mathlib.Core.List.{List}
use mathlib.Core.Logic.{◌≢◌, ◌⊎◌, inl, inr}
use mathlib.Core.Path.{◌≡◌, refl, sym, ap, ◌∙◌}
use Prim.Native.Nat.{ℕ, ◌≤◌, ◌<◌}
use native.Mathlib.Omega.{arith}
use borrow.Author.Tests.{leb-true, leb-false, lt-leb, le-ltb, ltb-false, ne_eqb}
use lib.Dec.{eqb, ltb, leb}
use lib.ListN.{length}
use Rattle.layout.specs.Layout.{has_mark, version, version_kept, count_p, count_r, count_z, within_limits}
use Rattle.layout.specs.Layout.{counts_kept, length_number, header_number, station_in}
use Rattle.layout.proofs.Header.{header-most}
use Rattle.partner_records.specs.PartnerRecords.{renumbered}
use Rattle.std.specs.Prelude.{Err}
use Rattle.refusals.specs.declared.Refusal.{Refusal}
use Rattle.refusals.specs.Numbers.{number_of}
use Rattle.refusals.proofs.Numbers.{some-number, no-index}
use Rattle.sheet.specs.Sheet.{refused_sheet, sheet_of, after_header, read_sheet}
use Rattle.layout.proofs.Counts.{counts-in-range, counts-kept}
use Rattle.sheet.proofs.Accepted.{headed, station-of}
use Rattle.sheet.proofs.Judging.{code-most}
use Rattle.panel.specs.Panel.{within_panel, panel_number, read_panel_sheet}
use Rattle.panel.specs.Laws.{OverLimits, PanelLaws, EachRead}

-- counts that are not within the limits, and the other way about
one-over : (p r : ℕ) → within_limits 16 8 p r ≡ false → (16 < p) ⊎ (8 < r)
one-over p r = go (leb p 16) refl
  where
    go : (b : Bool) → leb p 16 ≡ b → (b && leb r 8) ≡ false → (16 < p) ⊎ (8 < r)
    go true e h = inr (leb-false r 8 h)
    go false e h = inl (leb-false p 16 e)

not_within : (p r : ℕ) → (16 < p) ⊎ (8 < r) → within_limits 16 8 p r ≡ false
not_within p r (inl over) = rw (lt-leb p 16 over)
not_within p r (inr over) = rw (lt-leb r 8 over) (and-false (leb p 16))

-- the checks of a header up to the counts, and the number after them
abbrev up_to : Bool → Bool → Bool → Bool → ℕ → ℕ
up_to a b c d later = cond a 1 (cond (not b) 2 (cond (not c) 3 (cond (not d) 4 later)))

-- A further check after them makes a difference only where they pass and it fails. Else the number
-- is that without it, and 0 only where it passes.
told-apart :
    (a b c d w : Bool) (later : ℕ) →
    ((a ≡ false) × (b ≡ true) × (c ≡ true) × (d ≡ true) × (w ≡ false))
    ⊎ ((up_to a b c d (cond (not w) 9 later) ≡ up_to a b c d later)
    × (up_to a b c d later ≡ 0 → w ≡ true))
told-apart true b c d w later = inr (refl, λ h. absurd (omega arith))
told-apart false false c d w later = inr (refl, λ h. absurd (omega arith))
told-apart false true false d w later = inr (refl, λ h. absurd (omega arith))
told-apart false true true false w later = inr (refl, λ h. absurd (omega arith))
told-apart false true true true true later = inr (refl, λ h. refl)
told-apart false true true true false later = inl (refl, refl, refl, refl, refl)

-- the panel's number is the desk's, and 0 within the limits alone
record Alike (s : List ℕ) : Type 0 where
  number : panel_number s ≡ header_number s
  within : header_number s ≡ 0 → within_panel s ≡ true

module _ (s : List ℕ) where
  over-or-alike : OverLimits s ⊎ Alike s
  unfolding panel_number header_number station_in
  over-or-alike =
      let short = ltb (length s) 8 in
      let one = version_kept (version s) in
      let counts = counts_kept (count_p s) (count_r s) (count_z s) in
      elim (told-apart short (has_mark s) one counts (within_panel s) (length_number s)) [
        | inl f ↦ inl (record {
          header = ltb-false (length s) 8 f.0;
          mark = f.1;
          version-kept = f.2;
          counts = counts-in-range (station_in s) f.3;
          over = one-over (count_p s) (count_r s) f.4;
        })
        | inr e ↦ inr (record { number = e.0; within = e.1 })
      ]

  -- past the limits the panel's number is 9
  nine-over : OverLimits s → panel_number s ≡ 9
  unfolding panel_number station_in
  nine-over o =
      rw (
        le-ltb (length s) 8 o.header,
        o.mark,
        o.version-kept,
        counts-kept (station_in s) o.counts,
        not_within (count_p s) (count_r s) o.over,
      )

  never-by-the-desk : (read_sheet s).code ≢ 9
  never-by-the-desk e = omega (arith, code-most s, e)

  -- the number decides the answer: the refusal by 9, or the desk's
  pub answer-nine : panel_number s ≡ 9 → read_panel_sheet s ≡ refused_sheet 9 0
  unfolding read_panel_sheet
  answer-nine e = rw e

  answer-alike : Alike s → read_panel_sheet s ≡ read_sheet s
  unfolding read_panel_sheet read_sheet
  answer-alike a = ap (λ (n : ℕ). after_header n s) a.number

  pub answer-else : panel_number s ≢ 9 → read_panel_sheet s ≡ read_sheet s
  answer-else other = elim over-or-alike [
    | inl o ↦ absurd (other (nine-over o))
    | inr a ↦ answer-alike a
  ]

  -- a refusal by the panel's number, which is no record's
  pub answer-refused : (e : Refusal) → number_of e ≡ panel_number s → sheet_of (Err e) ≡ read_panel_sheet s
  unfolding read_panel_sheet
  answer-refused e h =
      let some = some-number e in
      let five = other 5 (omega arith) (omega arith) in
      let six = other 6 (omega arith) (omega arith) in
      rw (
        ← h,
        no-index e (λ q. five (sym h ∙ q)) (λ q. six (sym h ∙ q)),
        ne_eqb (number_of e) 0 (λ q. omega arith),
      )
    where
      other : (n : ℕ) → 4 < n → n ≢ 9 → panel_number s ≢ n
      other n more not-nine q = elim over-or-alike [
        | inl o ↦ not-nine (sym q ∙ nine-over o)
        | inr a ↦ omega (arith, header-most s, a.number, q)
      ]

  -- the laws past the limits
  laws-over : OverLimits s → PanelLaws s (read_panel_sheet s) (read_sheet s)
  laws-over o =
      rw (answer-nine (nine-over o)) record {
        same-within = λ p r. absurd (elim o.over [
          | inl more ↦ omega arith
          | inr more ↦ omega arith
        ]);
        nine = ((λ e. o), (λ o. refl));
        empty-with-nine = λ e. refl;
        same-without-nine = λ other. absurd (other refl);
        accepted-within = λ e. absurd (omega arith);
        never-by-the-desk = never-by-the-desk;
      }

  -- an accepted station, of either version, has the counts of its bytes, which are within the limits
  station-within :
      Alike s → (read_sheet s).code ≡ 0 →
      ((read_sheet s).station.turnouts ≤ 16) × ((read_sheet s).station.routes ≤ 8)
  unfolding station_in renumbered
  station-within a h =
      let within = a.within (headed s h).0 in
      let both = (and-eq-true_iff (leb (count_p s) 16) (leb (count_r s) 8)).0 within in
      rw (station-of s h)
      (go (eqb (version s) 1) (leb-true (count_p s) 16 both.0) (leb-true (count_r s) 8 both.1))
    where
      go :
          (one : Bool) → count_p s ≤ 16 → count_r s ≤ 8 →
          ((cond one (renumbered (station_in s)) (station_in s)).turnouts ≤ 16)
          × ((cond one (renumbered (station_in s)) (station_in s)).routes ≤ 8)
      go true p r = (p, r)
      go false p r = (p, r)

  -- the laws where the number is the desk's
  laws-alike : Alike s → PanelLaws s (read_panel_sheet s) (read_sheet s)
  laws-alike a =
      rw (answer-alike a) record {
        same-within = λ p r. refl;
        nine = ((λ h. absurd (never-by-the-desk h)), (λ o. absurd (not-over o)));
        empty-with-nine = λ h. absurd (never-by-the-desk h);
        same-without-nine = λ h. refl;
        accepted-within = station-within a;
        never-by-the-desk = never-by-the-desk;
      }
    where
      not-over : OverLimits s → ⊥
      not-over o = omega (arith, header-most s, nine-over o, a.number)

pub panel-laws : EachRead
panel-laws s = elim (over-or-alike s) [
  | inl o ↦ laws-over s o
  | inr a ↦ laws-alike s a
]
