-- Files in buffers, and their text in one: PROGRAM-1 and PROGRAM-2 (docs/RULES.md).
use Rattle.std.specs.Prelude.{List, ◌++◌, ◌≡◌, ℕ, length, take, drop}
use Rattle.report.specs.Text.{Filled}
use Rattle.desk_text.specs.Printed.{printed}

-- These bytes are a file's, as far as a buffer of that room holds it.
abbrev pub Holds : ℕ → List ℕ → List ℕ → Type 0
Holds room bytes file = bytes ≡ take room file

-- the whole text, what a buffer has past it, and the text's length
abbrev pub whole_text : List ℕ → List ℕ → Filled
whole_text out text = record { place = length text; bytes = text ++ drop (length text) out }

-- Whatever files two buffers hold so far as they go, this is the whole text of these files: nothing
-- of it is cut, and what the buffers cut off the files changes nothing.
abbrev pub TextOfFiles : ℕ → List ℕ → ℕ → List ℕ → List ℕ → Filled → Type 0
TextOfFiles n sheet m journal out text =
    (sheet-file journal-file : List ℕ) → Holds n sheet sheet-file → Holds m journal journal-file
    → text ≡ whole_text out (printed sheet-file journal-file)
