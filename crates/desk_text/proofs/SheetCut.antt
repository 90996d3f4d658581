-- What the program's buffer cuts off of a sheet changes nothing: one longer than 4,096 bytes is
-- refused by the same number.
use mathlib.Core.Bool.{Bool, true, false, and-eq-true_iff}
use mathlib.Core.List.{List}
use mathlib.Core.Path.{◌≡◌, refl, ap}
use Prim.Native.Nat.{ℕ, ◌≤◌, ◌<◌}
use native.Mathlib.Omega.{arith}
use lib.Dec.{eqb, ltb, leb}
use lib.ListN.{length, get_or, take}
use lib.Seq.{length-take-le, take_all, get_or-take}
use borrow.Author.Tests.{leb-true, leb-false, le-ltb, ne_eqb}
use Rattle.layout.specs.Layout.{has_mark, version, version_kept, count_p, count_r, count_z, counts_kept}
use Rattle.layout.specs.Layout.{sheet_length, header_number}
use Rattle.sheet.specs.Sheet.{read_sheet}

-- the header of a sheet is kept
record Same (s : List ℕ) : Type 0 where
  mark : has_mark (take 4096 s) ≡ has_mark s
  first-version : version (take 4096 s) ≡ version s
  p : count_p (take 4096 s) ≡ count_p s
  r : count_r (take 4096 s) ≡ count_r s
  z : count_z (take 4096 s) ≡ count_z s

same-header : (s : List ℕ) → Same s
same-header s =
    let b : (i : ℕ) → i < 4096 → get_or (take 4096 s) i 0 ≡ get_or s i 0 =
    λ i below. get_or-take 4096 s i 0 below
    in
    record {
      mark = rw (b 0 (omega arith), b 1 (omega arith), b 2 (omega arith));
      first-version = rw (b 3 (omega arith), b 4 (omega arith));
      p = b 5 (omega arith);
      r = b 6 (omega arith);
      z = b 7 (omega arith);
    }

-- a sheet longer than 4,096 bytes has another length than its counts ask for, also once it is cut
too_long : (s : List ℕ) (n : ℕ) → 4096 ≤ n → counts_kept (count_p s) (count_r s) (count_z s) ≡ true
    → eqb n (sheet_length (count_p s) (count_r s)) ≡ false
too_long s n long kept =
    let up_to3 = (and-eq-true_iff _ (leb (count_z s) 8)).0 kept in
    let up_to2 = (and-eq-true_iff _ (leb 1 (count_z s))).0 up_to3.0 in
    let limits = (and-eq-true_iff (leb 1 (count_p s)) _).0 up_to2.0 in
    let both = (and-eq-true_iff (leb (count_p s) 64) (leb (count_r s) 64)).0 limits.1 in
    let p = leb-true (count_p s) 64 both.0 in
    let r = leb-true (count_r s) 64 both.1 in
    ne_eqb n (sheet_length (count_p s) (count_r s)) (λ e. absurd (omega (arith, p, r, long, e)))

module _ (s : List ℕ) (long : 4096 < length s) where
  cut-length : length (take 4096 s) ≡ 4096
  cut-length = length-take-le 4096 s (omega (arith, long))

  -- both are refused by the same number
  refused-alike : (header_number (take 4096 s) ≡ header_number s) × (eqb (header_number s) 0 ≡ false)
  unfolding header_number
  refused-alike =
      go (has_mark s) refl (version_kept (version s)) refl
      (counts_kept (count_p s) (count_r s) (count_z s)) refl
    where
      h : Same s
      h = same-header s

      not_short : ltb (length s) 8 ≡ false
      not_short = le-ltb (length s) 8 (omega (arith, long))

      go :
          (mark : Bool) → has_mark s ≡ mark
          → (kept : Bool) → version_kept (version s) ≡ kept
          → (counts : Bool) → counts_kept (count_p s) (count_r s) (count_z s) ≡ counts
          → (header_number (take 4096 s) ≡ header_number s) × (eqb (header_number s) 0 ≡ false)
      go false p kept q counts t = (rw (cut-length, not_short, h.mark, p), rw (not_short, p))
      go true p false q counts t =
          (rw (cut-length, not_short, h.mark, p, h.first-version, q), rw (not_short, p, q))
      go true p true q false t = (
        rw (cut-length, not_short, h.mark, p, h.first-version, q, h.p, h.r, h.z, t),
        rw (not_short, p, q, t),
      )
      go true p true q true t =
          let longer = too_long s (length s) (omega (arith, long)) t in
          let cut = too_long s 4096 (omega arith) t in (
            rw (
              cut-length,
              not_short,
              h.mark,
              p,
              h.first-version,
              q,
              h.p,
              h.r,
              h.z,
              t,
              cut,
              longer,
            ),
            rw (not_short, p, q, t, longer),
          )

pub sheet-cut : (s : List ℕ) → read_sheet (take 4096 s) ≡ read_sheet s
unfolding read_sheet
sheet-cut s = go (leb (length s) 4096) refl
  where
    go : (fits : Bool) → leb (length s) 4096 ≡ fits → read_sheet (take 4096 s) ≡ read_sheet s
    go true p = ap read_sheet (take_all 4096 s (leb-true (length s) 4096 p))
    go false p =
        let alike = refused-alike s (leb-false (length s) 4096 p) in
        rw (alike.0, alike.1)
