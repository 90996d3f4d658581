-- Turnout sets. SET-2 (docs/RULES.md): "A set is a 64-bit word; bit n (value 2^n) is turnout n."
use Rattle.std.specs.Prelude.{Bool, cond, not, ℕ, zero, suc, ◌/◌, ◌%◌, ◌^◌, eqb, ltb}
use Rattle.std.specs.Int.Bits.{bit_and, bit_or, bit_xor}
use Rattle.sets.specs.Range.{count_from, first_from}

-- SET-2: turnout n is in the set s
unfoldable pub has : ℕ → ℕ → Bool
has s n = eqb (s / 2 ^ n % 2) 1

-- SET-2: the set of the turnout n alone; empty where no turnout has that number
unfoldable pub single : ℕ → ℕ
single n = cond (ltb n 64) (2 ^ n) 0

-- no turnout is in s
abbrev pub is_empty : ℕ → Bool
is_empty s = eqb s 0

-- some turnout is in both
abbrev pub overlaps : ℕ → ℕ → Bool
overlaps a b = not (eqb (bit_and a b) 0)

-- each turnout of a is in b
abbrev pub within : ℕ → ℕ → Bool
within a b = eqb (bit_and a b) a

-- the turnouts of a that are not in b
abbrev pub without : ℕ → ℕ → ℕ
without a b = bit_xor a (bit_and a b)

-- the turnouts of a and those of b
abbrev pub union : ℕ → ℕ → ℕ
union a b = bit_or a b

-- the set of the numbers below n that pass the test
unfoldable pub set_of : (ℕ → Bool) → ℕ → ℕ
set_of p zero = 0
set_of p (suc n) = union (set_of p n) (cond (p n) (single n) 0)

-- how many turnouts are in s, by counting
unfoldable pub count : ℕ → ℕ
count s = count_from (has s) 0 64

-- the lowest turnout in s, by searching; 64 if s is empty
unfoldable pub lowest : ℕ → ℕ
lowest s = first_from (has s) 0 64
