-- What the rows of a test program's input say: names, numbers, lines, and damage to a buffer. Bytes
-- are ASCII.
use Rattle.std.specs.Prelude.{ℕ, zero, suc, ◌+◌, ◌-◌, ◌*◌, ◌%◌, ◌^◌, cond, not, List, take, drop, ◌==◌, nat_le, nat_lt, slice_index_or, slice_set}
use Rattle.case_rows.specs.declared.Parsed.{Parsed}

-- n steps, one after another
unfoldable pub repeated : {A : Type 0} → ℕ → (A → A) → A → A
repeated zero step a = a
repeated (suc n) step a = repeated n step (step a)

-- the byte at a place; past the end it is the end of a line (10)
unfoldable pub byte_at : List ℕ → ℕ → ℕ
byte_at s at = slice_index_or s at 10

-- the next place; after the last place of 64 bits comes 0
abbrev pub after : ℕ → ℕ
after at = (at + 1) % 2 ^ 64

-- one step through a name: to the next place, unless a space (32) or a lower byte stands here
unfoldable pub after_letter : List ℕ → ℕ → ℕ
after_letter s at = cond (nat_le (byte_at s at) 32) at (after at)

-- the place after a name, which has at most 40 bytes
unfoldable pub after_name : List ℕ → ℕ → ℕ
after_name s at = repeated 40 (after_letter s) at

-- the bytes of the name at a place
unfoldable pub name_at : List ℕ → ℕ → List ℕ
name_at s at = take (after_name s at - at) (drop at s)

-- a number with the digit (48 to 57) that stands after it, if one does; of the digits before it the
-- last three are kept
unfoldable pub with_digit : List ℕ → Parsed → Parsed
with_digit s n =
    let b = byte_at s n.next in
    cond (nat_lt b 48) n
    (cond (nat_lt 57 b) n
    (record { value = n.value % 1000 * 10 + (b - 48); next = after n.next }))

-- the number after the byte at a place, which is a space: at most 4 digits; and the place after it
unfoldable pub number_at : List ℕ → ℕ → Parsed
number_at s at = repeated 4 (with_digit s) (record { value = 0; next = after at })

-- one step along a line: to the next place, unless the line ends here
unfoldable pub towards_end : List ℕ → ℕ → ℕ
towards_end s at = cond (byte_at s at == 10) at (after at)

-- the place after the end of a line, which has at most 200 bytes before it
unfoldable pub after_line : List ℕ → ℕ → ℕ
after_line s at = after (repeated 200 (towards_end s) at)

-- a buffer with a byte stored; past the end nothing is stored
abbrev pub with_byte : List ℕ → ℕ → ℕ → List ℕ
with_byte s at b = slice_set s at b

-- a buffer that gets damage, and the place in the row where the rest of it stands
pub record Damaged : Type 0 where
  pub place : ℕ
  pub bytes : List ℕ

-- one pair more, if a space stands here: a place of the buffer, and the number whose low 8 bits are
-- stored there
unfoldable pub with_pair : List ℕ → Damaged → Damaged
with_pair row d =
    let at = number_at row d.place in
    let value = number_at row at.next in
    cond (not (byte_at row d.place == 32)) d
    (record { place = value.next; bytes = with_byte d.bytes at.value (value.value % 256) })

-- a buffer with the damage that stands at a place of a row, at most 16 pairs; and the place after
-- it
unfoldable pub with_pairs : List ℕ → List ℕ → ℕ → Damaged
with_pairs s row at = repeated 16 (with_pair row) (record { place = at; bytes = s })
