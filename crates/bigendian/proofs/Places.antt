-- Laws of big-endian numbers at a place of a buffer, once over the width: a wider access is two
-- narrower ones, nothing happens past the end, and the round trips in place.
use mathlib.Core.Path.{◌≡◌, refl, sym, ap, ◌∙◌}
use mathlib.Core.Logic.{◌≢◌}
use mathlib.Core.List.{List, [], ◌∷◌, ◌++◌, append-nil}
use Prim.Native.Nat.{ℕ, zero, suc, ◌+◌, ◌-◌, ◌*◌, ◌/◌, ◌%◌, ◌^◌, ◌≤◌, ◌<◌}
use native.Mathlib.Nat.{le_refl, le_of_eq, add-zero, zero-add, zero-mul, add_assoc, suc-add}
use native.Mathlib.Nat.{add-suc, mod-eq_of_lt}
use native.Mathlib.Numerals.{add-one, one-add}
use native.Mathlib.Omega.{arith}
use lib.Dec.{lit<}
use lib.ListN.{length, get_or, set, drop, length-set, get_or-eq_default}
use lib.Seq.{sets, sets-eq, drop-length, set_out, set-get_or, get_or-set_same, get_or-set_other}
use Rattle.bigendian.specs.BigEndian.{Bytes, be_value, be_bytes, byte_at, with_byte, bytes_at, number_at, stored_at}
use Rattle.bigendian.proofs.Numbers.{length-be_bytes, value-append, value-bytes, bytes-value}
use Rattle.bigendian.proofs.Numbers.{bytes-add, bytes-mod, value-lt, pow-256}

pub length-bytes_at : (s : List ℕ) (at w : ℕ) → length (bytes_at s at w) ≡ w
length-bytes_at s at zero = refl
length-bytes_at s at (suc w) = ap suc (length-bytes_at s (at + 1) w)

bytes_at-next : (b : ℕ) (s : List ℕ) (at w : ℕ) → bytes_at (b ∷ s) (suc at) w ≡ bytes_at s at w
bytes_at-next b s at zero = refl
bytes_at-next b s at (suc w) = rw (suc-add at 1, bytes_at-next b s (at + 1) w)

-- all bytes of a buffer, read from its start
pub bytes_at-all : (s : List ℕ) → bytes_at s 0 (length s) ≡ s
bytes_at-all [] = refl
bytes_at-all (b ∷ s) = ap (λ (l : List ℕ). b ∷ l) (bytes_at-next b s 0 (length s) ∙ bytes_at-all s)

-- the bytes from a place on, in two parts
pub bytes_at-add :
    (s : List ℕ) (at v w : ℕ) → bytes_at s at (v + w) ≡ bytes_at s at v ++ bytes_at s (at + v) w
bytes_at-add s at zero w = rw (zero-add, add-zero)
bytes_at-add s at (suc v) w = rw (suc-add v w, bytes_at-add s (at + 1) v w, add_assoc, one-add)

-- a number of v + w bytes is the v bytes above and the w bytes below
pub number-add :
    (v w : ℕ) (s : List ℕ) (at : ℕ) →
    number_at (v + w) s at ≡ number_at v s at * 256 ^ w + number_at w s (at + v)
number-add v w s at =
    rw (
      bytes_at-add s at v w,
      value-append (bytes_at s at v) (bytes_at s (at + v) w),
      length-bytes_at s (at + v) w,
    )

pub number_past : (w : ℕ) (s : List ℕ) (at : ℕ) → length s ≤ at → number_at w s at ≡ 0
number_past zero s at past = refl
number_past (suc w) s at past =
    let next : length s ≤ at + 1 = omega arith in
    rw (get_or-eq_default s 0 past, number_past w s (at + 1) next, zero-mul)

pub sets-append :
    (s : List ℕ) (at : ℕ) (xs ys : List ℕ) →
    sets s at (xs ++ ys) ≡ sets (sets s at xs) (at + length xs) ys
sets-append s at [] ys = rw add-zero
sets-append s at (x ∷ xs) ys = rw (sets-append (set s at x) (suc at) xs ys, suc-add, add-suc)

-- a part stored, and then the rest from the place where the part ends
pub part_then :
    (xs rest s : List ℕ) {t u : List ℕ} (at to : ℕ) → at + length xs ≡ to → t ≡ sets s at xs
    → u ≡ sets t to rest
    → u ≡ sets s at (xs ++ rest)
part_then xs rest s at to place first later =
    later ∙ ap (λ (x : List ℕ). sets x to rest) first
    ∙ sym (sets-append s at xs rest ∙ ap (λ (p : ℕ). sets (sets s at xs) p rest) place)

-- a store over the whole buffer leaves nothing of it
pub sets-whole : (s vs : List ℕ) → length vs ≡ length s → sets s 0 vs ≡ vs
sets-whole s vs same =
    let rest : drop (0 + length vs) s ≡ [] = rw (zero-add (length vs), same) (drop-length s) in
    sets-eq vs s 0 (rw (zero-add (length vs)) (le_of_eq same)) ∙ rw (rest, append-nil vs)

-- a store of v + w bytes is one of the v bytes above, then one of the w bytes below
pub stored-add :
    (v w : ℕ) (s : List ℕ) (at n : ℕ) →
    stored_at (v + w) s at n ≡ stored_at w (stored_at v s at (n / 256 ^ w)) (at + v) (n % 256 ^ w)
stored-add v w s at n =
    rw (
      bytes-add v w n,
      sets-append s at (be_bytes v (n / 256 ^ w)) (be_bytes w n),
      length-be_bytes v (n / 256 ^ w),
      bytes-mod w n,
    )

pub stored_past : (w : ℕ) (s : List ℕ) (at n : ℕ) → length s ≤ at → stored_at w s at n ≡ s
stored_past zero s at n past = refl
stored_past (suc w) s at n past =
    let next : length s ≤ suc at = omega arith in
    ap (λ (l : List ℕ). stored_at w l (suc at) n) (set_out s at (n / 256 ^ w % 256) past)
    ∙ stored_past w s (suc at) n next

-- a run of stores from j on leaves what stands before j, and what stands after its last
pub get_d_sets_before :
    (s : List ℕ) (i j : ℕ) (vs : List ℕ) → i < j → get_or (sets s j vs) i 0 ≡ get_or s i 0
get_d_sets_before s i j [] before = refl
get_d_sets_before s i j (v ∷ vs) before =
    let other : i ≢ j = omega arith in
    let next : i < suc j = omega arith in
    get_d_sets_before (set s j v) i (suc j) vs next ∙ get_or-set_other s j i v 0 other

pub get_d-sets-after :
    (s : List ℕ) (i j : ℕ) (vs : List ℕ) → j + length vs ≤ i → get_or (sets s j vs) i 0 ≡ get_or s i 0
get_d-sets-after s i j [] after = refl
get_d-sets-after s i j (v ∷ vs) after =
    let other : i ≢ j = omega arith in
    let next : suc j + length vs ≤ i = omega arith in
    get_d-sets-after (set s j v) i (suc j) vs next ∙ get_or-set_other s j i v 0 other

bytes_at-sets :
    (s : List ℕ) (at : ℕ) (vs : List ℕ) → at + length vs ≤ length s →
    bytes_at (sets s at vs) at (length vs) ≡ vs
bytes_at-sets s at [] fits = refl
bytes_at-sets s at (v ∷ vs) fits =
    let here : at < length s = omega arith in
    let rest : suc at + length vs ≤ length (set s at v) = rw length-set (omega arith) in
    let first : get_or (sets (set s at v) (suc at) vs) at 0 ≡ v =
    get_d_sets_before (set s at v) at (suc at) vs (le_refl (suc at)) ∙ get_or-set_same s at v 0 here in
    rw (first, add-one at, bytes_at-sets (set s at v) (suc at) vs rest)

-- write, then read: what the width holds of the number, where its bytes fit the buffer
pub number-stored :
    (w : ℕ) (s : List ℕ) (at n : ℕ) → at + w ≤ length s →
    number_at w (stored_at w s at n) at ≡ n % 256 ^ w
number-stored w s at n fits =
    let bytes : bytes_at (stored_at w s at n) at w ≡ be_bytes w n =
    rw (length-be_bytes w n) at (bytes_at-sets s at (be_bytes w n) (rw (length-be_bytes w n) fits)) in
    ap be_value bytes ∙ value-bytes w n

bytes_at-bytes : (w : ℕ) (s : List ℕ) (at : ℕ) → Bytes s → Bytes (bytes_at s at w)
bytes_at-bytes zero s at byte i = lit< tt
bytes_at-bytes (suc w) s at byte zero = byte at
bytes_at-bytes (suc w) s at byte (suc i) = bytes_at-bytes w s (at + 1) byte i

-- w bytes hold a number below 256 ^ w
pub number_lt : (w : ℕ) (s : List ℕ) (at : ℕ) → Bytes s → number_at w s at < 256 ^ w
number_lt w s at byte =
    rw (length-bytes_at s at w) at (value-lt (bytes_at s at w) (bytes_at-bytes w s at byte))

-- the bytes of the number that was read are those that stand there
pub bytes-number :
    (w : ℕ) (s : List ℕ) (at : ℕ) → Bytes s → be_bytes w (number_at w s at) ≡ bytes_at s at w
bytes-number w s at byte =
    rw (length-bytes_at s at w) at (bytes-value (bytes_at s at w) (bytes_at-bytes w s at byte))

sets-bytes_at : (w : ℕ) (s : List ℕ) (at : ℕ) → sets s at (bytes_at s at w) ≡ s
sets-bytes_at zero s at = refl
sets-bytes_at (suc w) s at =
    rw (add-one at)
    (ap (λ (l : List ℕ). sets l (suc at) (bytes_at s (suc at) w)) (set-get_or s at 0)
    ∙ sets-bytes_at w s (suc at))

-- read, then write: the same buffer
pub stored-number : (w : ℕ) (s : List ℕ) (at : ℕ) → Bytes s → stored_at w s at (number_at w s at) ≡ s
stored-number w s at byte = rw (bytes-number w s at byte) (sets-bytes_at w s at)

-- one byte more: it stands below those before it
pub number-next :
    (i : ℕ) (s : List ℕ) (at : ℕ) → number_at (i + 1) s at ≡ number_at i s at * 256 + byte_at s (at + i)
number-next i s at = number-add i 1 s at ∙ omega arith

-- the bytes are all passed: their number fits in them
pub number_whole :
    {i w : ℕ} (s : List ℕ) (at n : ℕ) → i ≡ w → n ≡ number_at i s at → n < 256 ^ i →
    n % 256 ^ w ≡ number_at w s at
number_whole s at n all found below = rw (← all) (mod-eq_of_lt below ∙ found)

-- the top byte of those that are left is stored, then the rest
pub stored-next :
    (above i w : ℕ) (s : List ℕ) (at n : ℕ) → above ≡ w - 1 - i → i < w →
    stored_at (w - (i + 1)) (with_byte s (at + i) (n / 2 ^ (8 * above) % 256)) (at + (i + 1)) n
    ≡ stored_at (w - i) s (at + i) n
stored-next above i w s at n here below =
    let left : w - i ≡ suc above = omega arith in
    let rest : w - (i + 1) ≡ above = omega arith in
    rw (left, rest, pow-256 above, add-one i, add-suc at i)
