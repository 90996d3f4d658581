-- Laws of bytes that are put one after another, of decimal digits, and of the lines of answers.
use mathlib.Core.Path.{◌≡◌, refl, sym, ap, ◌∙◌}
use mathlib.Core.Bool.{Bool, true, false, cond}
use mathlib.Core.List.{List, [], ◌∷◌, ◌++◌}
use Prim.Native.Nat.{ℕ, zero, suc, ◌+◌, ◌-◌, ◌/◌, ◌%◌, ◌^◌, ◌≤◌, ◌<◌}
use native.Mathlib.Nat.{sub_self, pow-suc}
use native.Mathlib.Omega.{arith}
use lib.Dec.{ltb}
use lib.ListN.{length, get_or, drop, length-set}
use lib.Seq.{drop-cons}
use Rattle.std.proofs.Common.{add-one}
use Rattle.std.proofs.lemmas.List.{drop_all}
use Rattle.std.proofs.lemmas.Fmt.{decimal_by_steps}
use Rattle.std.specs.Fmt.{decimal as printed}
use borrow.Author.Tests.{ltb-true, lt-ltb, le-ltb}
use Rattle.report.specs.Answers.{code_in, minutes_in}
use Rattle.report.specs.Text.{Filled, digits, decimal, line_of, lines_from, put_byte, put_all}

-- what is put in two parts is put one part after the other
put-append :
    (s : List ℕ) (at : ℕ) (xs ys : List ℕ) →
    put_all s at (xs ++ ys) ≡ put_all (put_all s at xs).bytes (put_all s at xs).place ys
unfolding put_all
put-append s at [] ys = refl
put-append s at (x ∷ xs) ys = put-append (put_byte s at x).bytes (put_byte s at x).place xs ys

-- once xs are put, only ys are left
pub put-after :
    (s : List ℕ) (at : ℕ) (xs ys : List ℕ) {done : Filled} → done ≡ put_all s at xs →
    put_all s at (xs ++ ys) ≡ put_all done.bytes done.place ys
put-after s at xs ys e =
    put-append s at xs ys ∙ sym (ap (λ (f : Filled). put_all f.bytes f.place ys) e)

-- once xs and a byte are put, only ys are left
pub byte-after :
    (s : List ℕ) (at : ℕ) (xs : List ℕ) (b : ℕ) (ys : List ℕ) {done next : Filled} →
    done ≡ put_all s at xs → next ≡ put_byte done.bytes done.place b →
    put_all s at (xs ++ (b ∷ ys)) ≡ put_all next.bytes next.place ys
unfolding put_all
byte-after s at xs b ys e f =
    put-after s at xs (b ∷ ys) e ∙ sym (ap (λ (g : Filled). put_all g.bytes g.place ys) f)

-- once xs and a last byte are put, all is put
pub byte_last :
    (s : List ℕ) (at : ℕ) (xs : List ℕ) (b : ℕ) {done next : Filled} → done ≡ put_all s at xs →
    next ≡ put_byte done.bytes done.place b → next ≡ put_all s at (xs ++ (b ∷ []))
unfolding put_all
byte_last s at xs b e f = sym (byte-after s at xs b [] e f)

-- what is left of bytes from index i on, once byte i is put
pub rest_next :
    (s : List ℕ) (at : ℕ) (bs : List ℕ) (i : ℕ) {next : Filled} → i < length bs →
    next ≡ put_byte s at (get_or bs i 0) →
    put_all s at (drop i bs) ≡ put_all next.bytes next.place (drop (i + 1) bs)
unfolding put_all
rest_next s at bs i below e =
    rw (add-one, drop-cons bs i 0 below)
    (sym (ap (λ (f : Filled). put_all f.bytes f.place (drop (suc i) bs)) e))

-- past the last byte nothing is left
pub rest_end :
    (s : List ℕ) (at : ℕ) (bs : List ℕ) (i : ℕ) → length bs ≤ i →
    put_all s at (drop i bs) ≡ record { place = at; bytes = s }
unfolding put_all
rest_end s at bs i ended = rw (drop_all i bs ended)

-- put at a place within the buffer, a byte, and so any bytes, leave the next place within it
byte-within :
    (s : List ℕ) (at b : ℕ) → at ≤ length s →
    (put_byte s at b).place ≤ length (put_byte s at b).bytes
unfolding put_byte
byte-within s at b within = go (ltb at (length s)) refl
  where
    go : (t : Bool) → ltb at (length s) ≡ t → (put_byte s at b).place ≤ length (put_byte s at b).bytes
    go true e = rw (e, length-set s at b) (omega (arith, ltb-true at (length s) e))
    go false e = rw e within

pub put-within :
    (s : List ℕ) (at : ℕ) (bs : List ℕ) → at ≤ length s →
    (put_all s at bs).place ≤ length (put_all s at bs).bytes
unfolding put_all
put-within s at [] within = within
put-within s at (b ∷ bs) within =
    put-within (put_byte s at b).bytes (put_byte s at b).place bs (byte-within s at b within)

-- a number that k digits hold has no more, however many are asked for
digits-enough : (k n : ℕ) → n < 10 ^ suc k → digits (suc (suc k)) n ≡ digits (suc k) n
unfolding digits
digits-enough zero n small = rw (lt-ltb n 10 small)
digits-enough (suc k) n small =
    let next : n / 10 < 10 ^ suc k = omega (arith, pow-suc 10 (suc k)) in
    ap (λ (l : List ℕ). cond (ltb n 10) ((48 + n) ∷ []) (l ++ ((48 + n % 10) ∷ [])))
    (digits-enough k (n / 10) next)

pub decimal-small : (n : ℕ) → n < 10 → decimal n ≡ (48 + n) ∷ []
unfolding decimal digits
decimal-small n small = rw (lt-ltb n 10 small)

-- the digits of a number of 32 bits are those of its tenth and its last
pub decimal-next :
    (n : ℕ) → 10 ≤ n → n < 2 ^ 32 → decimal n ≡ decimal (n / 10) ++ ((48 + n % 10) ∷ [])
unfolding decimal digits
decimal-next n large fits =
    let tenth : n / 10 < 10 ^ 9 = omega arith in
    rw (le-ltb n 10 large)
    (ap (λ (l : List ℕ). l ++ ((48 + n % 10) ∷ [])) (sym (digits-enough 8 (n / 10) tenth)))

-- what the library prints of a number of 32 bits are these digits
pub decimal-printed : (n : ℕ) → n < 2 ^ 32 → printed n ≡ decimal n
decimal-printed n fits =
    let large : n < 2 ^ 64 = omega arith in
    decimal_by_steps Same (λ k small in-range. sym (decimal-small k small))
    (λ k ds big rest in-range.
    let tenth : k / 10 < 2 ^ 32 = omega arith in
    ap (λ (l : List ℕ). l ++ ((48 + k % 10) ∷ [])) (rest tenth) ∙ sym (decimal-next k big in-range))
    n large fits
  where
    Same : ℕ → List ℕ → Type 0
    Same k ds = k < 2 ^ 32 → ds ≡ decimal k

pub lines_next :
    (s : List ℕ) (i n : ℕ) → i < n →
    lines_from s i (n - i)
    ≡ line_of (i + 1) (code_in s i) (minutes_in s i) ++ lines_from s (i + 1) (n - (i + 1))
unfolding lines_from
lines_next s i n more =
    let left : n - i ≡ suc (n - (i + 1)) = omega arith in
    ap (lines_from s i) left

pub lines_end : (s : List ℕ) (n : ℕ) → lines_from s n (n - n) ≡ []
unfolding lines_from
lines_end s n = ap (lines_from s n) (sub_self n)
