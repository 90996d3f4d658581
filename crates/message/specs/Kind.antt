-- The kinds of message as the code names them, and their numbers in the table after RECORD-6
-- (docs/RULES.md).
use Rattle.std.specs.Prelude.{◌≡◌, ℕ, false, Result, MatchResult}
use Rattle.refusals.specs.declared.Refusal.{Refusal}
use Rattle.refusals.specs.declared.Refusal.TheVariants.{BadKind}
use Rattle.message.specs.declared.kind.Kind.{Kind}
use Rattle.message.specs.declared.kind.Kind.TheVariants as the
use Rattle.message.specs.Fields.{is_kind}

-- the number of a kind
abbrev pub kind_number : Kind → ℕ
kind_number the.WorkAsked = 1
kind_number the.Agreed = 2
kind_number the.Withdrawn = 3
kind_number the.DetectionOff = 4
kind_number the.MovementAsked = 5
kind_number the.Clearance = 6
kind_number the.Ordered = 7
kind_number the.Passed = 8
kind_number the.Cancelled = 9
kind_number the.PartRestored = 10
kind_number the.AllRestored = 11
kind_number the.Recorder = 12
kind_number the.KeyUsed = 13

-- the result is the kind with this number; or 11, and the number is no kind's
abbrev pub Decodes : ℕ → Result Kind Refusal → Type 0
Decodes n r = MatchResult r (λ kind. kind_number kind ≡ n) (λ e. (e ≡ BadKind) × (is_kind n ≡ false))
