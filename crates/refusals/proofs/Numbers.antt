-- What a refusal's number says: it is never 0, the code of what is accepted, and one that is not a
-- record's names no index.
use mathlib.Core.Bool.{false}
use mathlib.Core.Logic.{◌≢◌}
use mathlib.Core.Path.{◌≡◌}
use Prim.Native.Nat.{◌≤◌}
use native.Mathlib.Omega.{arith}
use lib.Dec.{eqb}
use Rattle.std.proofs.Common.{rules}
use Rattle.refusals.specs.declared.Refusal.{Refusal}
use Rattle.refusals.specs.Numbers.{number_of, index_of}

pub not_zero : (e : Refusal) → eqb (number_of e) 0 ≡ false
not_zero e = search rules

pub some-number : (e : Refusal) → 1 ≤ number_of e
some-number e = grind arith

-- only 5 and 6 come with an index
pub no-index : (e : Refusal) → number_of e ≢ 5 → number_of e ≢ 6 → index_of e ≡ 0
no-index e = grind arith
