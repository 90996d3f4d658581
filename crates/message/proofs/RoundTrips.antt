-- Both round trips of a record, for all inputs: an accepted record, read and written again, gives
-- the same 32 bytes; a message that keeps the field rules, written and read again, gives the same
-- message. The only other hypotheses are that the numbers are of their machine types and the buffer
-- is one that a record fits.
use mathlib.Core.Path.{◌≡◌, refl, sym, ap, ◌∙◌}
use mathlib.Core.Bool.{Bool, true, false}
use mathlib.Core.List.{List, ◌++◌, ◌∷◌}
use Prim.Native.Nat.{ℕ, ◌^◌, ◌<◌}
use native.Mathlib.Nat.{mod-eq_of_lt}
use native.Mathlib.Omega.{arith}
use lib.Dec.{eqb}
use lib.ListN.{length, get_or}
use lib.Seq.{sets}
use borrow.Author.Tests.{eq-eqb, eqb-true}
use Rattle.bigendian.proofs.Numbers.{value-bytes}
use Rattle.bigendian.proofs.Places.{bytes_at-all, bytes-number, sets-whole}
use Rattle.bigendian.specs.BigEndian.{Bytes, bytes_at}
use Rattle.refusals.proofs.Numbers.{not_zero}
use Rattle.message.specs.declared.Message.{Message}
use Rattle.message.specs.Fields.{details, field_number}
use Rattle.message.specs.Record.{decoded, encoded, head_bytes, empty_message, ReadAnswer}
use Rattle.message.specs.Record.{accepted, refused, read_record, written}

-- each field of several bytes is a number of its machine type
pub record Typed (m : Message) : Type 0 where
  pub time : m.time < 2 ^ 32
  pub id : m.id < 2 ^ 32
  pub a : m.a < 2 ^ 64
  pub b : m.b < 2 ^ 64

decoded-encoded : (m : Message) → Typed m → decoded (encoded m) ≡ m
unfolding decoded encoded head_bytes
decoded-encoded m fits =
    let time : (decoded (encoded m)).time ≡ m.time =
    value-bytes 4 m.time ∙ mod-eq_of_lt fits.time in
    let id : (decoded (encoded m)).id ≡ m.id = value-bytes 4 m.id ∙ mod-eq_of_lt fits.id in
    let a : (decoded (encoded m)).a ≡ m.a = value-bytes 8 m.a ∙ mod-eq_of_lt fits.a in
    let b : (decoded (encoded m)).b ≡ m.b = value-bytes 8 m.b ∙ mod-eq_of_lt fits.b in
    λ i. record {
      kind = m.kind;
      zone = m.zone;
      time = time i;
      id = id i;
      a = a i;
      b = b i;
      d0 = m.d0;
      d1 = m.d1;
      d2 = m.d2;
      d3 = m.d3;
      d4 = m.d4;
      d5 = m.d5;
    }

encoded-decoded : (s : List ℕ) → Bytes s → length s ≡ 32 → encoded (decoded s) ≡ s
unfolding decoded encoded head_bytes
encoded-decoded s byte whole =
    let time = bytes-number 4 s 2 byte in
    let id = bytes-number 4 s 6 byte in
    let a = bytes-number 8 s 10 byte in
    let b = bytes-number 8 s 18 byte in
    let parts : encoded (decoded s) ≡ bytes_at s 0 32 =
    λ i. get_or s 0 0 ∷ get_or s 1 0 ∷ (time i ++ (id i ++ (a i ++ b i))) ++ details (decoded s) in
    parts ∙ ap (bytes_at s 0) (sym whole) ∙ bytes_at-all s

-- what makes a record accepted: 32 bytes whose message keeps the field rules
record Kept (s : List ℕ) : Type 0 where
  whole : length s ≡ 32
  rules : field_number (decoded s) ≡ 0

kept : (s : List ℕ) → (read_record s).code ≡ 0 → Kept s
unfolding read_record
kept s code = go (eqb (length s) 32) refl (eqb (field_number (decoded s)) 0) refl
  where
    go :
        (w : Bool) → eqb (length s) 32 ≡ w → (r : Bool) → eqb (field_number (decoded s)) 0 ≡ r →
        Kept s
    go true p true q =
        record { whole = eqb-true (length s) 32 p; rules = eqb-true (field_number (decoded s)) 0 q }
    go true p false q = record { whole = eqb-true (length s) 32 p; rules = rw (p, q) at code }
    go false p r q = let ten : ◌≡◌ {A = ℕ} 10 0 = rw p at code in absurd (omega arith)

read_kept : (s : List ℕ) → Kept s → read_record s ≡ accepted (decoded s)
unfolding read_record
read_kept s k = rw (eq-eqb (length s) 32 k.whole, eq-eqb (field_number (decoded s)) 0 k.rules)

pub written-kept :
    (m : Message) → field_number m ≡ 0 → (buffer : List ℕ) → length buffer ≡ 32 →
    written m buffer ≡ record { code = 0; bytes = encoded m }
unfolding written
written-kept m rules buffer room =
    rw (eq-eqb (length buffer) 32 room, eq-eqb (field_number m) 0 rules)

-- a refused reading has a number that is not 0
pub refused-by : (s : List ℕ) (number : ℕ) → refused number ≡ read_record s → number ≡ 0 → ⊥
unfolding field_number
refused-by s number e zero =
    let k = kept s (sym (ap (λ (a : ReadAnswer). a.code) e) ∙ zero) in
    let none : decoded s ≡ empty_message =
    sym (ap (λ (a : ReadAnswer). a.message) (e ∙ read_kept s k)) in
    let eleven : ◌≡◌ {A = ℕ} 11 0 = sym (ap field_number none) ∙ k.rules in
    omega arith

-- an accepted record has 32 bytes, its message keeps the field rules, and the bytes of that message
-- are the record
pub accepted-length : (s : List ℕ) → (read_record s).code ≡ 0 → length s ≡ 32
accepted-length s code = (kept s code).whole

pub accepted-rules : (s : List ℕ) → (read_record s).code ≡ 0 → field_number (read_record s).message ≡ 0
accepted-rules s code =
    let k = kept s code in
    rw (read_kept s k) k.rules

pub encoded-read :
    (s : List ℕ) → Bytes s → (read_record s).code ≡ 0 → encoded (read_record s).message ≡ s
encoded-read s byte code =
    let k = kept s code in
    rw (read_kept s k) (encoded-decoded s byte k.whole)

-- an accepted record, read and written again, gives the same 32 bytes
pub read-then-written :
    (s : List ℕ) → Bytes s → (read_record s).code ≡ 0 → (buffer : List ℕ) → length buffer ≡ 32 →
    written (read_record s).message buffer ≡ record { code = 0; bytes = s }
read-then-written s byte code buffer room =
    rw (
      written-kept (read_record s).message (accepted-rules s code) buffer room,
      encoded-read s byte code,
    )

pub length-encoded : (m : Message) → length (encoded m) ≡ 32
unfolding encoded head_bytes
length-encoded m = refl

-- the stores of a record cover a buffer of its length
pub stored_whole : (m : Message) (s : List ℕ) → length s ≡ 32 → sets s 0 (encoded m) ≡ encoded m
stored_whole m s room = sets-whole s (encoded m) (length-encoded m ∙ sym room)

-- what writing a record lacks
pub ruleset writing = (not_zero, stored_whole)

-- a message that keeps the field rules, written and read again, gives the same message
pub written-then-read :
    (m : Message) → Typed m → field_number m ≡ 0 → (buffer : List ℕ) → length buffer ≡ 32 →
    read_record (written m buffer).bytes ≡ accepted m
written-then-read m fits rules buffer room =
    let same = decoded-encoded m fits in
    let k : Kept (encoded m) =
    record { whole = length-encoded m; rules = ap field_number same ∙ rules } in
    rw (written-kept m rules buffer room, read_kept (encoded m) k, same)
