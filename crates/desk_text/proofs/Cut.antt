-- What the program's buffers cut off changes nothing: of a sheet by SheetCut.antt, and what stands
-- after 16 + 32 x 1,024 bytes of a journal is not looked at.
use mathlib.Core.Bool.{Bool, true, false, ◌&&◌}
use mathlib.Core.List.{List, [], ◌∷◌}
use mathlib.Core.Path.{◌≡◌, refl, sym, ap, ap₂, ◌∙◌}
use Prim.Native.Nat.{ℕ, zero, suc, ◌+◌, ◌≤◌, ◌<◌}
use native.Mathlib.Omega.{arith}
use lib.Dec.{eqb, leb}
use lib.ListN.{length, get_or, take, drop}
use lib.Seq.{length-take-le, take_all, take-take, get_or-take}
use borrow.Author.Tests.{leb-true, leb-false, le-leb}
use Rattle.bigendian.specs.BigEndian.{number_at}
use Rattle.journal.specs.Journal.{has_mark, version, stored_count, zeros_kept, is_journal}
use Rattle.journal.specs.Journal.{journal_number, counted, record_place, records_from, records}
use Rattle.journal.proofs.Good.{good-journal}
use Rattle.replay.specs.Replay.{inputs_of, replayed}
use Rattle.message.specs.Record.{WriteAnswer}
use Rattle.report.specs.Text.{text_of}
use Rattle.desk_text.specs.Printed.{room, printed}
use Rattle.desk_text.proofs.SheetCut.{sheet-cut}

-- a part that ends within the first k bytes
part-kept : (n m k : ℕ) (s : List ℕ) → n + m ≤ k → take m (drop n (take k s)) ≡ take m (drop n s)
part-kept zero m k s within =
    let less : m ≤ k = omega (arith, within) in
    take-take m k s less
part-kept (suc n) m zero s within = absurd (omega (arith, within))
part-kept (suc n) m (suc k) [] within = refl
part-kept (suc n) m (suc k) (x ∷ s) within =
    let less : n + m ≤ k = omega (arith, within) in
    part-kept n m k s less

-- a byte of the first k
byte-kept : (k : ℕ) (s : List ℕ) (i : ℕ) → i < k → get_or (take k s) i 0 ≡ get_or s i 0
byte-kept k s i below = get_or-take k s i 0 below

-- a test that fails makes the others of no account
too_many :
    (mark first zeros x y : Bool) →
    (mark && first && false && zeros && x) ≡ (mark && first && false && zeros && y)
too_many true true zeros x y = refl
too_many true false zeros x y = refl
too_many false first zeros x y = refl

-- two journals with the same header
module _ (t s : List ℕ) (byte : (i : ℕ) → i < 16 → get_or t i 0 ≡ get_or s i 0) where
  same_count : stored_count t ≡ stored_count s
  same_count =
      rw (byte 5 (omega arith), byte 6 (omega arith), byte 7 (omega arith), byte 8 (omega arith))

  same-mark : has_mark t ≡ has_mark s
  same-mark = rw (byte 0 (omega arith), byte 1 (omega arith), byte 2 (omega arith))

  same_version : version t ≡ version s
  same_version = rw (byte 3 (omega arith), byte 4 (omega arith))

  same-four : number_at 4 t 9 ≡ number_at 4 s 9
  same-four =
      rw (byte 9 (omega arith), byte 10 (omega arith), byte 11 (omega arith), byte 12 (omega arith))

  same-two : number_at 2 t 13 ≡ number_at 2 s 13
  same-two = rw (byte 13 (omega arith), byte 14 (omega arith))

  same-zeros : zeros_kept t ≡ zeros_kept s
  same-zeros =
      ap (λ (x : ℕ). eqb x 0 && eqb (number_at 2 t 13) 0 && eqb (get_or t 15 0) 0) same-four
      ∙ ap (λ (x : ℕ). eqb (number_at 4 s 9) 0 && eqb x 0 && eqb (get_or t 15 0) 0) same-two
      ∙ ap (λ (x : ℕ). eqb (number_at 4 s 9) 0 && eqb (number_at 2 s 13) 0 && eqb x 0)
      (byte 15 (omega arith))

-- a journal of more than 32,784 bytes, cut there
module _ (s : List ℕ) (long : 32784 < length s) where
  byte : (i : ℕ) → i < 16 → get_or (take 32784 s) i 0 ≡ get_or s i 0
  byte i below = byte-kept 32784 s i (omega (arith, below))

  -- what a journal's tests say of both: its records end by there
  alike : is_journal (take 32784 s) ≡ is_journal s
  unfolding is_journal
  alike = go (leb (stored_count s) 1024) refl
    where
      cut : length (take 32784 s) ≡ 32784
      cut = length-take-le 32784 s (omega (arith, long))

      header : leb 16 (length s) ≡ true
      header = le-leb 16 (length s) (omega (arith, long))

      go : (few : Bool) → leb (stored_count s) 1024 ≡ few → is_journal (take 32784 s) ≡ is_journal s
      go true p =
          let most = leb-true (stored_count s) 1024 p in
          let ends : leb (record_place (stored_count s)) 32784 ≡ true =
          le-leb (record_place (stored_count s)) 32784 (omega (arith, most)) in
          let ends-too : leb (record_place (stored_count s)) (length s) ≡ true =
          le-leb (record_place (stored_count s)) (length s) (omega (arith, most, long)) in
          rw (
            cut,
            header,
            same-mark (take 32784 s) s byte,
            same_version (take 32784 s) s byte,
            same_count (take 32784 s) s byte,
            same-zeros (take 32784 s) s byte,
            p,
            ends,
            ends-too,
          )
      go false p =
          rw (
            cut,
            header,
            same-mark (take 32784 s) s byte,
            same_version (take 32784 s) s byte,
            same_count (take 32784 s) s byte,
            same-zeros (take 32784 s) s byte,
            p,
          )
          (too_many (has_mark s) (eqb (version s) 1) (zeros_kept s) _ _)

  same-records : (n k : ℕ) → n + k ≤ 1024 → records_from (take 32784 s) n k ≡ records_from s n k
  unfolding records_from
  same-records n zero within = refl
  same-records n (suc k) within =
      let inside : record_place n + 32 ≤ 32784 = omega (arith, within) in
      let rest : n + 1 + k ≤ 1024 = omega (arith, within) in
      rw (part-kept (record_place n) 32 32784 s inside, same-records (n + 1) k rest)

journal-long : (s : List ℕ) → 32784 < length s → (buffer sheet : List ℕ)
    → replayed sheet (take 32784 s) buffer ≡ replayed sheet s buffer
unfolding replayed inputs_of records counted journal_number
journal-long s long buffer sheet = go (is_journal s) refl
  where
    go :
        (whole : Bool) → is_journal s ≡ whole →
        replayed sheet (take 32784 s) buffer ≡ replayed sheet s buffer
    go true p =
        let most = leb-true (stored_count s) 1024 (good-journal s p).limit in
        let count = same_count (take 32784 s) s (byte s long) in
        rw (alike s long, p, count, same-records s long 0 (stored_count s) (omega (arith, most)))
    go false p = rw (alike s long, p)

count_long : (s : List ℕ) → 32784 < length s → counted (take 32784 s) ≡ counted s
unfolding counted
count_long s long = rw (alike s long, same_count (take 32784 s) s (byte s long))

sheet-replayed :
    (sheet journal buffer : List ℕ) →
    replayed (take 4096 sheet) journal buffer ≡ replayed sheet journal buffer
unfolding replayed
sheet-replayed sheet journal buffer = rw (sheet-cut sheet)

-- what the program reads of its files gives the text of the whole files
pub cut_off :
    (sheet journal : List ℕ) →
    printed (take 4096 sheet) (take 32784 journal) ≡ printed sheet journal
unfolding printed
cut_off sheet journal = go (leb (length journal) 32784) refl
  where
    text : WriteAnswer → ℕ → List ℕ
    text a count = text_of a.code a.bytes count

    go : (fits : Bool) → leb (length journal) 32784 ≡ fits
        → printed (take 4096 sheet) (take 32784 journal) ≡ printed sheet journal
    go true p =
        ap (printed (take 4096 sheet)) (take_all 32784 journal (leb-true (length journal) 32784 p))
        ∙ ap (λ (a : WriteAnswer). text a (counted journal)) (sheet-replayed sheet journal room)
    go false p =
        let long = leb-false (length journal) 32784 p in
        let cut = take 32784 journal in
        let answer = sheet-replayed sheet cut room ∙ journal-long journal long room sheet in
        ap (λ (a : WriteAnswer). text a (counted cut)) answer
        ∙ ap (text (replayed sheet journal room)) (count_long journal long)

-- and so does what larger buffers hold of them
pub cut-anywhere :
    (k l : ℕ) (sheet journal : List ℕ) → 4096 ≤ k → 32784 ≤ l
    → printed (take k sheet) (take l journal) ≡ printed sheet journal
cut-anywhere k l sheet journal sheet-room journal-room =
    sym (cut_off (take k sheet) (take l journal))
    ∙ ap₂ printed (take-take 4096 k sheet sheet-room) (take-take 32784 l journal journal-room)
    ∙ cut_off sheet journal
