-- A value below 256 that stands under others comes back, and so do those above it.
use mathlib.Core.Path.{◌≡◌, ap, ◌∙◌}
use Prim.Native.Nat.{ℕ, suc, ◌+◌, ◌*◌, ◌/◌, ◌%◌, ◌<◌}
use native.Mathlib.Nat.{add_comm, mul_comm, mod-eq_of_lt}
use lib.Arith.{digits_div, digits_mod}
use Rattle.packing.specs.Bytes.{above, byte_of, TwoBytes}

-- the value in the lowest byte
pub lowest-byte : (low rest : ℕ) → low < 256 → byte_of 0 (low + 256 * rest) ≡ low
unfolding above
lowest-byte low rest fits =
    let turned = add_comm low (256 * rest) ∙ ap (λ (n : ℕ). n + low) (mul_comm 256 rest) in
    ap (λ (n : ℕ). n % 256) turned ∙ digits_mod rest fits

-- what stands above it, k bytes further on
pub above-next : (k low rest : ℕ) → low < 256 → above (suc k) (low + 256 * rest) ≡ above k rest
unfolding above
above-next k low rest fits =
    let turned = add_comm low (256 * rest) ∙ ap (λ (n : ℕ). n + low) (mul_comm 256 rest) in
    ap (λ (n : ℕ). above k (n / 256)) turned
    ∙ ap (above k) (digits_div rest fits)

-- byte k of it is byte k + 1 of the whole
pub byte_next : (k low rest : ℕ) → low < 256 → byte_of (suc k) (low + 256 * rest) ≡ byte_of k rest
byte_next k low rest fits = ap (λ (n : ℕ). n % 256) (above-next k low rest fits)

pub two_bytes : (low next : ℕ) → low < 256 → next < 256 → TwoBytes low next
unfolding above
two_bytes low next low_fits next_fits = record {
  low_byte = lowest-byte low next low_fits;
  next-byte = byte_next 0 low next low_fits ∙ mod-eq_of_lt next_fits;
}
