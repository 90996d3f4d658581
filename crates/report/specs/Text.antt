-- The text of answers, PROGRAM-1 and PROGRAM-2 (docs/RULES.md): "prints per record: its number from
-- 1, the code, the minutes. A refused sheet, else a refused journal, prints only its refusal
-- number, on one line."
use Rattle.std.specs.Prelude.{cond, List, [], ◌∷◌, ◌++◌, ℕ, zero, suc, ◌+◌, ◌/◌, ◌%◌, eqb, ltb, length, set}
use Rattle.report.specs.Answers.{code_in, minutes_in}

-- PROGRAM-1: the decimal digits of n, in ASCII, the most significant first, as the output of
-- station K has them; k is as many as n may have
unfoldable pub digits : ℕ → ℕ → List ℕ
digits zero n = []
digits (suc k) n = cond (ltb n 10) ((48 + n) ∷ []) (digits k (n / 10) ++ ((48 + n % 10) ∷ []))

-- a number of 32 bits has at most 10 digits
unfoldable pub decimal : ℕ → List ℕ
decimal n = digits 10 n

-- PROGRAM-1, a line: the numbers, a space between them (32), a line end (10)
unfoldable pub line_of : ℕ → ℕ → ℕ → List ℕ
line_of n code minutes = decimal n ++ (32 ∷ decimal code ++ (32 ∷ decimal minutes ++ (10 ∷ [])))

-- PROGRAM-1, the lines of the k answers from answer i on, which has number i + 1
unfoldable pub lines_from : List ℕ → ℕ → ℕ → List ℕ
lines_from s i zero = []
lines_from s i (suc k) = line_of (i + 1) (code_in s i) (minutes_in s i) ++ lines_from s (i + 1) k

-- PROGRAM-1, PROGRAM-2, the text: of a refusal its number; else the lines of all answers
unfoldable pub text_of : ℕ → List ℕ → ℕ → List ℕ
text_of code s count = cond (eqb code 0) (lines_from s 0 count) (decimal code ++ (10 ∷ []))

-- a buffer that is being filled, and the place of its next byte
pub record Filled : Type 0 where
  pub place : ℕ
  pub bytes : List ℕ

-- a byte put at a place; past the end nothing is stored
unfoldable pub put_byte : List ℕ → ℕ → ℕ → Filled
put_byte s at b =
    cond (ltb at (length s))
    (record { place = at + 1; bytes = set s at b })
    (record { place = at; bytes = s })

unfoldable pub put_all : List ℕ → ℕ → List ℕ → Filled
put_all s at [] = record { place = at; bytes = s }
put_all s at (b ∷ bs) = let next = put_byte s at b in put_all next.bytes next.place bs
