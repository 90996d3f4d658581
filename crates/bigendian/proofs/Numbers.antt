-- Laws of the big-endian bytes of a number, once over the width: bounds, both round trips, and a
-- number put together from two.
use mathlib.Core.Path.{◌≡◌, refl, sym, ap, ◌∙◌}
use mathlib.Core.List.{List, [], ◌∷◌, ◌++◌}
use Prim.Native.Nat.{ℕ, zero, suc, ◌+◌, ◌*◌, ◌/◌, ◌%◌, ◌^◌, ◌<◌, ◌≤◌}
use native.Mathlib.Nat.{zero-add, add_assoc, add_comm, suc-add, mul_assoc, add-mul, zero-mul}
use native.Mathlib.Nat.{mul-suc, pow-suc, pow-le-pow_right}
use native.Mathlib.Numerals.{add-one}
use native.Mathlib.Omega.{arith}
use native.Mathlib.Nat.{pow-succ', one-le-pow, mod-one, mod-eq_of_lt, div-add-mod'}
use native.Mathlib.Nat.{div-div-eq-div-mul, mul-add-div_right, mul-add-mod_self_right}
use lib.Dec.{lit<}
use lib.Pow.{pow-add}
use lib.Arith.{digits_lt, digits_div, mod-mul}
use lib.ListN.{length, length-append}
use Rattle.bigendian.specs.BigEndian.{Bytes, be_value, be_bytes}

256^-pos : (w : ℕ) → 0 < 256 ^ w
256^-pos w = one-le-pow w 256 (lit< tt)

pub length-be_bytes : (w n : ℕ) → length (be_bytes w n) ≡ w
length-be_bytes zero n = refl
length-be_bytes (suc w) n = ap suc (length-be_bytes w n)

-- w bytes are a number below 256 ^ w
pub value-lt : (bs : List ℕ) → Bytes bs → be_value bs < 256 ^ length bs
value-lt [] byte = lit< tt
value-lt (b ∷ bs) byte =
    rw (pow-succ' 256 (length bs)) (digits_lt (byte 0) (value-lt bs (λ i. byte (suc i))))

-- write, then read: what the width holds of the number
pub value-bytes : (w n : ℕ) → be_value (be_bytes w n) ≡ n % 256 ^ w
value-bytes zero n = sym (mod-one n)
value-bytes (suc w) n =
    rw (length-be_bytes w n, value-bytes w n, pow-succ' 256 w, mod-mul n (lit< tt) (256^-pos w))

-- the low w bytes of a number do not depend on what stands above them
pub bytes_low : (w q r : ℕ) → be_bytes w (q * 256 ^ w + r) ≡ be_bytes w r
bytes_low zero q r = refl
bytes_low (suc w) q r =
    let shift : q * 256 ^ suc w ≡ q * 256 * 256 ^ w = rw (pow-succ' 256 w, mul_assoc) in
    let digit : (q * 256 * 256 ^ w + r) / 256 ^ w % 256 ≡ r / 256 ^ w % 256 =
    ap (λ (x : ℕ). x % 256) (mul-add-div_right (256^-pos w) (q * 256) r)
    ∙ mul-add-mod_self_right q 256 (r / 256 ^ w) in
    rw (shift, digit, bytes_low w (q * 256) r)

pub bytes-mod : (w n : ℕ) → be_bytes w (n % 256 ^ w) ≡ be_bytes w n
bytes-mod w n =
    sym (bytes_low w (n / 256 ^ w) (n % 256 ^ w)) ∙ ap (be_bytes w) (div-add-mod' n (256 ^ w))

-- read, then write: the same bytes
pub bytes-value : (bs : List ℕ) → Bytes bs → be_bytes (length bs) (be_value bs) ≡ bs
bytes-value [] byte = refl
bytes-value (b ∷ bs) byte =
    let rest : Bytes bs = λ i. byte (suc i) in
    rw (
      digits_div b (value-lt bs rest),
      mod-eq_of_lt (byte 0),
      bytes_low (length bs) b (be_value bs),
      bytes-value bs rest,
    )

-- the bytes above and the bytes below
pub value-append : (xs ys : List ℕ) → be_value (xs ++ ys) ≡ be_value xs * 256 ^ length ys + be_value ys
value-append [] ys = rw (zero-mul, zero-add)
value-append (x ∷ xs) ys =
    rw (
      value-append xs ys,
      length-append xs ys,
      pow-add 256 (length xs) (length ys),
      add-mul,
      mul_assoc,
      add_assoc,
    )

-- the bytes of a number are those of its high part and those of its low part
pub bytes-add : (v w n : ℕ) → be_bytes (v + w) n ≡ be_bytes v (n / 256 ^ w) ++ be_bytes w n
bytes-add zero w n = rw zero-add
bytes-add (suc v) w n =
    rw (
      suc-add v w,
      bytes-add v w n,
      div-div-eq-div-mul n (256 ^ w) (256 ^ v),
      add_comm v w,
      pow-add 256 w v,
    )

-- a shift by whole bytes
pub pow-256 : (k : ℕ) → 2 ^ (8 * k) ≡ 256 ^ k
pow-256 zero = refl
pow-256 (suc k) = rw (mul-suc 8 k, pow-add 2 (8 * k) 8, pow-256 k) (sym (pow-suc 256 k))

-- one byte more of a number of fewer than eight keeps within its bytes, and within 64 bits
pub next-lt : (n b i : ℕ) → n < 256 ^ i → b < 256 → n * 256 + b < 256 ^ (i + 1)
next-lt n b i below byte = rw (add-one i, pow-suc 256 i) (omega arith)

pub next_fits : (n b i : ℕ) → n < 256 ^ i → b < 256 → i < 8 → n * 256 + b < 2 ^ 64
next_fits n b i below byte few =
    let seven : i ≤ 7 = omega arith in
    let most : 256 ^ i ≤ 256 ^ 7 = pow-le-pow_right (lit< tt) seven in
    omega arith
