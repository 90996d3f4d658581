-- The numbers of refusals, docs/RULES.md 'All numbers', and what an answer has of them.
use Rattle.std.specs.Prelude.{ℕ, Result, Ok, Err, Bool, cond}
use Rattle.refusals.specs.declared.Refusal.{Refusal}
use Rattle.refusals.specs.declared.Refusal.TheVariants as the

-- the number of a refusal
abbrev pub number_of : Refusal → ℕ
number_of the.BadLength = 1
number_of the.BadMark = 2
number_of the.BadVersion = 3
number_of the.BadCounts = 4
number_of (the.BadTurnout n) = 5
number_of (the.BadRoute n) = 6
number_of the.NoSheet = 7
number_of the.ShortBuffer = 8
number_of the.OverLimits = 9
number_of the.NotARecord = 10
number_of the.BadKind = 11
number_of the.NoSuchZone = 12
number_of the.BadField = 13
number_of the.TooEarly = 14
number_of the.NotUnderThisId = 15
number_of the.AlreadyThere = 16
number_of the.BadTurnouts = 17
number_of the.WrongStage = 18
number_of the.MovementInTheWay = 19
number_of the.ClearanceDoesNotFit = 20
number_of the.WrongMedium = 21
number_of the.Forbidden = 22
number_of the.KeyDoesNotFit = 23
number_of the.BadJournal = 30
number_of the.Full = 31
number_of the.NoSuchRecord = 32
number_of the.OutOfRange = 33
number_of the.SmallBuffer = 60
number_of the.NotADesk = 61

-- the index of a record that a refusal names, else 0
abbrev pub index_of : Refusal → ℕ
index_of (the.BadTurnout n) = n
index_of (the.BadRoute n) = n
index_of e = 0

-- the index that the refusal of an answer names; 0 where it is accepted, or names none
abbrev pub index_in : {A : Type 0} → Result A Refusal → ℕ
index_in (Ok a) = 0
index_in (Err e) = index_of e

-- the code of an answer: 0, or the number of its refusal
abbrev pub code_of : {A : Type 0} → Result A Refusal → ℕ
code_of (Ok a) = 0
code_of (Err e) = number_of e

-- the number of an answer's refusal, or the one that is given where it is accepted
abbrev pub code_or : {A : Type 0} → Result A Refusal → ℕ → ℕ
code_or (Ok a) later = later
code_or (Err e) later = number_of e

-- the answer of one check: refused where its test holds
abbrev pub refused_if : Bool → Refusal → Result Unit Refusal
refused_if test refusal = cond test (Err refusal) (Ok tt)
