-- The buffers' lengths are what the laws of the text ask for.
use mathlib.Core.Path.{◌≡◌, sym, ap, ap₂, ◌∙◌, subst}
use mathlib.Core.List.{List, ◌++◌}
use Prim.Native.Nat.{ℕ, ◌+◌, ◌≤◌}
use native.Mathlib.Nat.{zero-add}
use native.Mathlib.Omega.{arith}
use lib.ListN.{length, take, drop}
use lib.Seq.{sets, sets-eq}
use Rattle.report.specs.Text.{Filled, put_all}
use Rattle.report.proofs.Filling.{put-within}
use Rattle.desk_text.specs.Printed.{printed}
use Rattle.desk_text.proofs.Printed.{text-fits, never-cut}
use Rattle.desk_text.proofs.Cut.{cut-anywhere}
use Rattle.printing.specs.Files.{whole_text}

-- the text of what the buffers hold is the whole text of the files
pub whole :
    (n : ℕ) (sheet : List ℕ) (m : ℕ) (journal out s j : List ℕ)
    → 4096 ≤ n → 32784 ≤ m → 33792 ≤ length out
    → sheet ≡ take n s → journal ≡ take m j
    → put_all out 0 (printed sheet journal) ≡ whole_text out (printed s j)
whole n sheet m journal out s j sheet-room journal-room out-room sheet-holds journal-holds =
    let same : printed sheet journal ≡ printed s j =
    ap₂ printed sheet-holds journal-holds ∙ cut-anywhere n m s j sheet-room journal-room in
    let text = printed s j in
    let short = text-fits s j in
    let fits : 0 + length text ≤ length out = omega (arith, short, out-room) in
    let place : 0 + length text ≡ length text = zero-add (length text) in
    let bytes : sets out 0 text ≡ text ++ drop (length text) out =
    sets-eq text out 0 fits ∙ ap (λ (n : ℕ). text ++ drop n out) place in
    ap (put_all out 0) same
    ∙ never-cut s j out out-room
    ∙ ap (λ (b : List ℕ). record { place = length text; bytes = b }) bytes

-- bytes that were put from place 0 on end within the buffer
pub within : (out bs : List ℕ) (f : Filled) → f ≡ put_all out 0 bs → f.place ≤ length f.bytes
within out bs f e =
    let ends = put-within out 0 bs (omega arith) in
    subst (λ (g : Filled). g.place ≤ length g.bytes) (sym e) ends
