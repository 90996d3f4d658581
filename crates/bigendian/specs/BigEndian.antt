-- Numbers in bytes. SET-3 (docs/RULES.md): "Multi-byte numbers are big-endian".
use Rattle.std.specs.Prelude.{List, [], ◌∷◌, ℕ, zero, suc, ◌+◌, ◌*◌, ◌/◌, ◌%◌, ◌^◌, ◌<◌, length, get_or, set}
use Rattle.std.proofs.lemmas.List.Edits.{sets}

-- numbers that are bytes
abbrev pub Bytes : List ℕ → Type 0
Bytes s = (i : ℕ) → get_or s i 0 < 256

-- SET-3: the number that the bytes are, the first the most significant
abbrev pub be_value : List ℕ → ℕ
be_value [] = 0
be_value (b ∷ bs) = b * 256 ^ length bs + be_value bs

-- SET-3: the w bytes of the number n, the most significant first
abbrev pub be_bytes : ℕ → ℕ → List ℕ
be_bytes zero n = []
be_bytes (suc w) n = n / 256 ^ w % 256 ∷ be_bytes w n

-- the byte of s at an index; 0 past the end
abbrev pub byte_at : List ℕ → ℕ → ℕ
byte_at s at = get_or s at 0

-- s with the byte b at an index; past the end nothing is stored
abbrev pub with_byte : List ℕ → ℕ → ℕ → List ℕ
with_byte s at b = set s at b

-- the w bytes of s from the index at on; a byte past the end is 0
abbrev pub bytes_at : List ℕ → ℕ → ℕ → List ℕ
bytes_at s at zero = []
bytes_at s at (suc w) = byte_at s at ∷ bytes_at s (at + 1) w

-- the number in the w bytes of s from at on
abbrev pub number_at : ℕ → List ℕ → ℕ → ℕ
number_at w s at = be_value (bytes_at s at w)

-- s with the w bytes of n stored from at on; a byte past the end is not stored
abbrev pub stored_at : ℕ → List ℕ → ℕ → ℕ → List ℕ
stored_at w s at n = sets s at (be_bytes w n)
