-- What an accepted message tells: each check of its row failed; a clearance and a key name a
-- turnout below 64.
use mathlib.Core.Bool.{Bool, true, false, cond, not, ◌&&◌, and-eq-true_iff, true≢false}
use mathlib.Core.List.{List, [], ◌∷◌}
use mathlib.Core.Path.{◌≡◌, refl, sym, ◌∙◌}
use Prim.Native.Nat.{ℕ, ◌≤◌, ◌<◌}
use native.Mathlib.Omega.{arith}
use borrow.Author.Tests.{eq-eqb, leb-true, not-true}
use lib.Dec.{eqb, leb}
use Rattle.message.specs.declared.Message.{Message}
use Rattle.message.specs.Fields.{field_number, fields_kept, id_kept, is_kind, named, named_kept, set_kept}
use Rattle.message.specs.Fields.{Span, details_kept, details, in_span, ◌to◌}
use Rattle.rules.specs.Kinds.{Check, ◌gives◌, first}

-- the test of each check is false
abbrev pub Passed : List Check → Type 0
Passed [] = Unit {0}
Passed ((test gives number) ∷ rest) = (test ≡ false) × Passed rest

-- no check gives 0
abbrev pub numbered : List Check → Bool
numbered [] = true
numbered ((test gives number) ∷ rest) = not (eqb number 0) && numbered rest

pub passed : (checks : List Check) → numbered checks ≡ true → first checks ≡ 0 → Passed checks
passed [] some none = tt
passed ((true gives number) ∷ rest) some none =
    let other =
    not-true (eqb number 0) ((and-eq-true_iff (not (eqb number 0)) (numbered rest)).0 some).0 in
    absurd (true≢false (sym (eq-eqb number 0 none) ∙ other))
passed ((false gives number) ∷ rest) some none =
    (refl, passed rest ((and-eq-true_iff (not (eqb number 0)) (numbered rest)).0 some).1 none)

-- a message that keeps the field rules
kept : (m : Message) → field_number m ≡ 0 → fields_kept m ≡ true
unfolding field_number
kept m zero = go (is_kind m.kind) (fields_kept m) zero
  where
    go : (kind fields : Bool) → ◌≡◌ {A = ℕ} (cond kind (cond fields 0 13) 11) 0 → fields ≡ true
    go true true e = refl
    go true false e = absurd (omega arith)
    go false fields e = absurd (omega arith)

-- a kind that names no set, and of the details first a turnout, "d0 turnout 0-63"
first-turnout :
    (m : Message) (k : ℕ) (later : List Span) → m.kind ≡ k
    → named k ≡ record { a = false; b = false; spans = (0 to 63) ∷ later } → field_number m ≡ 0
    → m.d0 < 64
unfolding fields_kept
first-turnout m k later e names zero =
    let id-kept = id_kept m.kind m.id in
    let all = ((and-eq-true_iff id-kept (named_kept (named m.kind) m)).0 (kept m zero)).1 in
    let row : named_kept (record { a = false; b = false; spans = (0 to 63) ∷ later }) m ≡ true =
    rw (e, names) at all in
    let sets = set_kept false m.a && set_kept false m.b in
    let spans = ((and-eq-true_iff sets (details_kept ((0 to 63) ∷ later) (details m))).0 row).1 in
    let others = details_kept later (m.d1 ∷ m.d2 ∷ m.d3 ∷ m.d4 ∷ m.d5 ∷ []) in
    let turnout = ((and-eq-true_iff (in_span (0 to 63) m.d0) others).0 spans).0 in
    let most : m.d0 ≤ 63 =
    leb-true m.d0 63 ((and-eq-true_iff (leb 0 m.d0) (leb m.d0 63)).0 turnout).1 in
    omega arith

pub clearance-turnout : (m : Message) → m.kind ≡ 6 → field_number m ≡ 0 → m.d0 < 64
unfolding named
clearance-turnout m six =
    first-turnout m 6 ((1 to 9) ∷ (0 to 1) ∷ (0 to 2) ∷ (1 to 2) ∷ (0 to 1) ∷ []) six refl

pub key-turnout : (m : Message) → m.kind ≡ 13 → field_number m ≡ 0 → m.d0 < 64
unfolding named
key-turnout m thirteen = first-turnout m 13 ((1 to 2) ∷ []) thirteen refl
