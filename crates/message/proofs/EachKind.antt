-- A case principle over the kinds: what holds at each number up to 13, and from 14 on, holds at
-- every number.
use mathlib.Core.Path.{◌≡◌}
use Prim.Native.Nat.{ℕ, zero, suc, ◌≤◌}
use native.Mathlib.Omega.{arith}
use mathlib.Core.Bool.{false}
use Rattle.std.proofs.lemmas.Bool.Decides.{nat_tests}
use Rattle.message.specs.Fields.{is_kind}

-- P at each number below n
abbrev pub EachBelow : ℕ → (ℕ → Type 0) → Type 0
EachBelow zero P = Unit {0}
EachBelow (suc n) P = P 0 × EachBelow n (λ k. P (suc k))

-- one case and those after it
infixr 5 ◌also◌
abbrev pub ◌also◌ : {A B : Type 0} → A → B → A × B
a also b = (a, b)

each_below : (n : ℕ) (P : ℕ → Type 0) → EachBelow n P → ((k : ℕ) → n ≤ k → P k) → (k : ℕ) → P k
each_below zero P each past k = past k (omega arith)
each_below (suc n) P each past zero = each.0
each_below (suc n) P each past (suc k) =
    each_below n (λ j. P (suc j)) each.1 (λ j after. past (suc j) (omega arith)) k

-- P at 0 and at each of the thirteen kinds, a line each
abbrev pub EachKind : (ℕ → Type 0) → Type 0
EachKind P = EachBelow 14 P

pub each-kind : (P : ℕ → Type 0) → EachKind P → ((k : ℕ) → 14 ≤ k → P k) → (k : ℕ) → P k
each-kind P = each_below 14 P

-- what holds at 0, and from 14 on, holds at every number that is no kind's
pub no-kind :
    (P : ℕ → Type 0) → P 0 → ((k : ℕ) → 14 ≤ k → P k) → (k : ℕ) → is_kind k ≡ false → P k
no-kind P none past zero e = none
no-kind P none past (suc k) e = past (suc k) (grind (arith, nat_tests))
