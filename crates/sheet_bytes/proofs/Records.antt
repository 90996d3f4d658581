-- Records of one width, one after another: how long they are together, where each of them begins,
-- and that stretches of bytes, read one after another, are these bytes. Each law is once over the
-- width, for the turnouts (3 bytes) and the routes (33 bytes) of a sheet.
use mathlib.Core.Path.{◌≡◌, refl, sym, ap, ap₂, ◌∙◌}
use mathlib.Core.List.{List, ◌++◌, append_assoc}
use Prim.Native.Nat.{ℕ, zero, suc, ◌+◌, ◌*◌, ◌-◌, ◌≤◌, ◌<◌, min}
use native.Mathlib.Nat.{add-zero, zero-add, add_assoc, add_comm, suc-add}
use native.Mathlib.Nat.{mul-zero, mul-suc, min-eq_left}
use native.Mathlib.Numerals.{add-one, one-add}
use native.Mathlib.Omega.{arith}
use lib.ListN.{length, drop, length-append}
use lib.Seq.{drop-drop, drop-append-add}
use Rattle.bigendian.specs.BigEndian.{bytes_at}
use Rattle.bigendian.proofs.Places.{bytes_at-add}
use Rattle.sheet_bytes.specs.SheetBytes.{records_from}

-- one record more is a width more
width-more : (w k : ℕ) → w + w * k ≡ w * suc k
width-more w k = add_comm w (w * k) ∙ sym (mul-suc w k)

module _ (f : ℕ → List ℕ) (w : ℕ) (each : (n : ℕ) → length (f n) ≡ w) where
  pub length-records : (i k : ℕ) → length (records_from f i k) ≡ w * k
  unfolding records_from
  length-records i zero = sym (mul-zero w)
  length-records i (suc k) =
      length-append (f i) (records_from f (i + 1) k)
      ∙ ap₂ (λ (a b : ℕ). a + b) (each i) (length-records (i + 1) k)
      ∙ width-more w k

  -- the same for a count that keeps the limit
  pub length-counted : (p : ℕ) → p ≤ 64 → length (records_from f 0 (min p 64)) ≡ w * p
  length-counted p limit =
      length-records 0 (min p 64) ∙ ap (λ (k : ℕ). w * k) (min-eq_left limit)

  -- what follows the first n of n + m records
  pub drop-records :
      (i n m : ℕ) (rest : List ℕ) →
      drop (w * n) (records_from f i (n + m) ++ rest) ≡ records_from f (i + n) m ++ rest
  unfolding records_from
  drop-records i zero m rest = rw (mul-zero w, zero-add m, add-zero i)
  drop-records i (suc n) m rest =
      ap₂ drop place apart
      ∙ drop-append-add (f i) (later ++ rest) (w * n)
      ∙ drop-records (i + 1) n m rest
      ∙ ap (λ (k : ℕ). records_from f k m ++ rest) index
    where
      later : List ℕ
      later = records_from f (i + 1) (n + m)

      place : w * suc n ≡ length (f i) + w * n
      place = sym (width-more w n) ∙ ap (λ (a : ℕ). a + w * n) (sym (each i))

      apart : records_from f i (suc n + m) ++ rest ≡ f i ++ (later ++ rest)
      apart =
          ap (λ (k : ℕ). records_from f i k ++ rest) (suc-add n m)
          ∙ append_assoc (f i) later rest

      index : i + 1 + n ≡ i + suc n
      index = add_assoc i 1 n ∙ ap (λ (k : ℕ). i + k) (one-add n)

  -- Record n of the k that begin at a place of bytes, as a reader finds it: one that reads from a
  -- place as from the start of what follows the place, and that reads x where f n was written.
  pub record-read :
      {A : Type 0} (read : List ℕ → ℕ → A) →
      ((at : ℕ) (s : List ℕ) → read s at ≡ read (drop at s) 0) →
      (s : List ℕ) (at k : ℕ) (rest : List ℕ) → drop at s ≡ records_from f 0 k ++ rest →
      (n : ℕ) → n < k → (x : A) → ((after : List ℕ) → read (f n ++ after) 0 ≡ x) →
      read s (at + w * n) ≡ x
  unfolding records_from
  record-read read from s at k rest begins n below x written =
      from (at + w * n) s
      ∙ ap (λ (l : List ℕ). read l 0) here
      ∙ written (records_from f (n + 1) m ++ rest)
    where
      m : ℕ
      m = k - suc n

      count : k ≡ n + suc m
      count = omega arith

      here : drop (at + w * n) s ≡ f n ++ (records_from f (n + 1) m ++ rest)
      here =
          sym (drop-drop (w * n) at s)
          ∙ ap (drop (w * n)) (begins ∙ ap (λ (c : ℕ). records_from f 0 c ++ rest) count)
          ∙ drop-records 0 n (suc m) rest
          ∙ ap (λ (c : ℕ). records_from f c (suc m) ++ rest) (zero-add n)
          ∙ append_assoc (f n) (records_from f (n + 1) m) rest

-- records that are the same one by one
pub same-records :
    (f g : ℕ → List ℕ) (i k : ℕ) → ((n : ℕ) → n < i + k → f n ≡ g n) →
    records_from f i k ≡ records_from g i k
unfolding records_from
same-records f g i zero same = refl
same-records f g i (suc k) same =
    let first : f i ≡ g i = same i (omega arith) in
    let later = same-records f g (i + 1) k (λ n below. same n (omega arith)) in
    ap₂ (λ (a b : List ℕ). a ++ b) first later

-- k stretches of w bytes, one after another, are one stretch
pub records-in :
    (s : List ℕ) (w at i k : ℕ) →
    records_from (λ n. bytes_at s (at + w * n) w) i k ≡ bytes_at s (at + w * i) (w * k)
unfolding records_from
records-in s w at i zero = rw (mul-zero w)
records-in s w at i (suc k) =
    let later = records-in s w at (i + 1) k ∙ ap (λ (a : ℕ). bytes_at s a (w * k)) next in
    ap (λ (l : List ℕ). bytes_at s (at + w * i) w ++ l) later
    ∙ sym (bytes_at-add s (at + w * i) w (w * k))
    ∙ ap (bytes_at s (at + w * i)) (width-more w k)
  where
    next : at + w * (i + 1) ≡ at + w * i + w
    next =
        ap (λ (n : ℕ). at + w * n) (add-one i)
        ∙ ap (λ (n : ℕ). at + n) (mul-suc w i)
        ∙ sym (add_assoc at (w * i) w)
