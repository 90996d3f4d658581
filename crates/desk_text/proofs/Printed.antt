-- Laws of the text: it is what PROGRAM-1 and PROGRAM-2 (docs/RULES.md) say, and it is never cut.
use mathlib.Core.Bool.{Bool, true, false}
use mathlib.Core.List.{List, [], ◌∷◌, ◌++◌}
use mathlib.Core.Path.{◌≡◌, refl, ◌∙◌}
use Prim.Native.Nat.{ℕ, zero, suc, ◌+◌, ◌*◌, ◌/◌, ◌%◌, ◌≤◌, ◌<◌}
use native.Mathlib.Nat.{add-zero, zero-add}
use native.Mathlib.Omega.{arith}
use lib.Dec.{eqb, ltb}
use lib.ListN.{length, set, length-replicate, length-append, length-set}
use lib.Seq.{sets}
use borrow.Author.Tests.{leb-true, lt-ltb, le-ltb}
use Rattle.sheet.specs.Sheet.{read_sheet}
use Rattle.journal.specs.Journal.{stored_count, is_journal, journal_number, counted}
use Rattle.journal.proofs.Good.{good-journal}
use Rattle.report.specs.Answers.{answer_place, code_in, minutes_in}
use Rattle.report.specs.Text.{digits, decimal, line_of, lines_from, text_of, put_byte, put_all}
use Rattle.replay.specs.Replay.{replayed}
use Rattle.desk_text.specs.Printed.{room, printed, as_written}

-- a journal has at most 1,024 records
count_most : (journal : List ℕ) → counted journal ≤ 1024
unfolding counted
count_most journal = go (is_journal journal) refl
  where
    go : (b : Bool) → is_journal journal ≡ b → counted journal ≤ 1024
    go true p = rw p (leb-true (stored_count journal) 1024 (good-journal journal p).limit)
    go false p = rw p (omega arith)

length-room : length room ≡ 5120
unfolding room
length-room = length-replicate {A = ℕ} 5120 0

room-enough : (journal : List ℕ) → ltb (length room) (answer_place (counted journal)) ≡ false
room-enough journal =
    let most = count_most journal in
    let enough : answer_place (counted journal) ≤ 5120 = omega (arith, most) in
    rw length-room (le-ltb 5120 (answer_place (counted journal)) enough)

-- what is printed is what PROGRAM-1 and PROGRAM-2 say: there is always room for the answers
pub prints : (sheet journal : List ℕ) → printed sheet journal ≡ as_written sheet journal
unfolding printed as_written replayed text_of
prints sheet journal = go (eqb (read_sheet sheet).code 0) refl (eqb (journal_number journal) 0) refl
  where
    go :
        (good : Bool) → eqb (read_sheet sheet).code 0 ≡ good
        → (whole : Bool) → eqb (journal_number journal) 0 ≡ whole
        → printed sheet journal ≡ as_written sheet journal
    go true p true q = rw (p, q, room-enough journal)
    go true p false q = rw (p, q, q)
    go false p whole q = rw (p, p)

-- a number has at most 10 digits, so a line at most 33 bytes
digits-most : (k n : ℕ) → length (digits k n) ≤ k
unfolding digits
digits-most zero n = omega arith
digits-most (suc k) n = go (ltb n 10) refl (digits-most k (n / 10))
  where
    go :
        (small : Bool) → ltb n 10 ≡ small → length (digits k (n / 10)) ≤ k →
        length (digits (suc k) n) ≤ suc k
    go true p rest = rw p (omega arith)
    go false p rest =
        rw (p, length-append (digits k (n / 10)) ((48 + n % 10) ∷ [])) (omega (arith, rest))

line-most : (n code minutes : ℕ) → length (line_of n code minutes) ≤ 33
unfolding line_of decimal
line-most n code minutes =
    let first = digits-most 10 n in
    let second = digits-most 10 code in
    let third = digits-most 10 minutes in
    rw (
      length-append (digits 10 n) (32 ∷ digits 10 code ++ (32 ∷ digits 10 minutes ++ (10 ∷ []))),
      length-append (digits 10 code) (32 ∷ digits 10 minutes ++ (10 ∷ [])),
      length-append (digits 10 minutes) (10 ∷ []),
    )
    (omega (arith, first, second, third))

lines-most : (s : List ℕ) (i k : ℕ) → length (lines_from s i k) ≤ 33 * k
unfolding lines_from
lines-most s i zero = omega arith
lines-most s i (suc k) =
    let line = line-most (i + 1) (code_in s i) (minutes_in s i) in
    let rest = lines-most s (i + 1) k in
    rw (length-append (line_of (i + 1) (code_in s i) (minutes_in s i)) (lines_from s (i + 1) k))
    (omega (arith, line, rest))

-- no text is longer than the program's buffer
pub text-fits : (sheet journal : List ℕ) → length (printed sheet journal) ≤ 33792
unfolding printed text_of decimal
text-fits sheet journal = go (eqb (replayed sheet journal room).code 0) refl
  where
    go :
        (good : Bool) → eqb (replayed sheet journal room).code 0 ≡ good →
        length (printed sheet journal) ≤ 33792
    go true p =
        let lines = lines-most (replayed sheet journal room).bytes 0 (counted journal) in
        let most = count_most journal in
        rw p (omega (arith, lines, most))
    go false p =
        let number = digits-most 10 (replayed sheet journal room).code in
        rw (
          p,
          length-append (digits 10 (replayed sheet journal room).code) (10 ∷ []),
        ) (omega (arith, number))

-- bytes that fit are all put
put_whole : (s : List ℕ) (at : ℕ) (bs : List ℕ) → at + length bs ≤ length s
    → put_all s at bs ≡ record { place = at + length bs; bytes = sets s at bs }
unfolding put_all put_byte
put_whole s at [] fits = rw (add-zero at)
put_whole s at (b ∷ bs) fits =
    let here : at < length s = omega arith in
    let rest : at + 1 + length bs ≤ length (set s at b) = rw (length-set s at b) (omega arith) in
    let end : at + 1 + length bs ≡ at + suc (length bs) = omega arith in
    let next : at + 1 ≡ suc at = omega arith in
    rw (lt-ltb at (length s) here, put_whole (set s at b) (at + 1) bs rest)
    (λ i. record { place = end i; bytes = sets (set s at b) (next i) bs })

-- a buffer of the program's length then holds the whole text
pub never-cut : (sheet journal out : List ℕ) → 33792 ≤ length out
    → let text = printed sheet journal in
    put_all out 0 text ≡ record { place = length text; bytes = sets out 0 text }
never-cut sheet journal out room-there =
    let fits = text-fits sheet journal in
    let whole : 0 + length (printed sheet journal) ≤ length out = omega (arith, fits) in
    put_whole out 0 (printed sheet journal) whole ∙ rw (zero-add (length (printed sheet journal)))
