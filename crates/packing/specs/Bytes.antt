-- The bytes of a number, from the lowest on, and two values packed in one number.
use Rattle.std.specs.Prelude.{◌≡◌, ℕ, zero, suc, ◌+◌, ◌*◌, ◌/◌, ◌%◌}

-- what stands above the k lowest bytes of a number
unfoldable pub above : ℕ → ℕ → ℕ
above zero n = n
above (suc k) n = above k (n / 256)

-- byte k of a number, byte 0 the lowest
abbrev pub byte_of : ℕ → ℕ → ℕ
byte_of k n = above k n % 256

-- a value, and another in the byte above it
abbrev pub two_packed : ℕ → ℕ → ℕ
two_packed low next = low + 256 * next

-- taken apart: byte 0 is the first, byte 1 the second
pub record TwoBytes (low next : ℕ) : Type 0 where
  pub low_byte : byte_of 0 (two_packed low next) ≡ low
  pub next-byte : byte_of 1 (two_packed low next) ≡ next
