-- The 32-byte record of a message, reading and writing: RECORD-1, RECORD-4 and RECORD-5
-- (docs/RULES.md).
use Rattle.std.specs.Prelude.{cond, List, ◌∷◌, ◌++◌, ℕ, eqb, get_or, length, Result, Ok, Err}
use Rattle.bigendian.specs.BigEndian.{number_at, be_bytes}
use Rattle.refusals.specs.declared.Refusal.{Refusal}
use Rattle.refusals.specs.Numbers.{number_of}
use Rattle.message.specs.declared.Message.{Message}
use Rattle.message.specs.Fields.{details, field_number}

-- RECORD-1: "Kind (1 byte), zone (1), time in seconds (4), id (4), sets a and b (8 each), details
-- d0 to d5 (a byte each)": the message that stands in the bytes
unfoldable pub decoded : List ℕ → Message
decoded s = record {
  kind = get_or s 0 0;
  zone = get_or s 1 0;
  time = number_at 4 s 2;
  id = number_at 4 s 6;
  a = number_at 8 s 10;
  b = number_at 8 s 18;
  d0 = get_or s 26 0;
  d1 = get_or s 27 0;
  d2 = get_or s 28 0;
  d3 = get_or s 29 0;
  d4 = get_or s 30 0;
  d5 = get_or s 31 0;
}

-- RECORD-1, the 32 bytes of a message: the first 26, then the details
unfoldable pub head_bytes : Message → List ℕ
head_bytes m =
    m.kind ∷ m.zone
    ∷ (be_bytes 4 m.time ++ (be_bytes 4 m.id ++ (be_bytes 8 m.a ++ be_bytes 8 m.b)))

unfoldable pub encoded : Message → List ℕ
encoded m = head_bytes m ++ details m

-- a message with every field 0: what a refused reading gives
abbrev pub empty_message : Message
empty_message = record {
  kind = 0;
  zone = 0;
  time = 0;
  id = 0;
  a = 0;
  b = 0;
  d0 = 0;
  d1 = 0;
  d2 = 0;
  d3 = 0;
  d4 = 0;
  d5 = 0;
}

-- the answer of reading a record: 0 and the message, or the number that refuses it
pub record ReadAnswer : Type 0 where
  pub code : ℕ
  pub message : Message

abbrev pub accepted : Message → ReadAnswer
accepted m = record { code = 0; message = m }

abbrev pub refused : ℕ → ReadAnswer
refused number = record { code = number; message = empty_message }

-- FORM-9: the rule's number and values for each case of the reader's answer
abbrev pub reading_of : Result Message Refusal → ReadAnswer
reading_of (Ok m) = accepted m
reading_of (Err e) = refused (number_of e)

-- RECORD-4, HEAR-1: "A record is first read into a message, or refused (10, 11, 13, in that order)"
unfoldable pub read_record : List ℕ → ReadAnswer
read_record s =
    cond (eqb (length s) 32)
    (cond (eqb (field_number (decoded s)) 0)
    (accepted (decoded s))
    (refused (field_number (decoded s))))
    (refused 10)

-- the answer of writing a record: the number, and the whole buffer
pub record WriteAnswer : Type 0 where
  pub code : ℕ
  pub bytes : List ℕ

-- RECORD-5: "writing it is refused by 13, a buffer that is not 32 bytes by 10"; a refusal leaves
-- the buffer as it was
unfoldable pub written : Message → List ℕ → WriteAnswer
written m s =
    cond (eqb (length s) 32)
    (cond (eqb (field_number m) 0)
    (record { code = 0; bytes = encoded m })
    (record { code = 13; bytes = s }))
    (record { code = 10; bytes = s })
