-- The numbers of kinds.
use Rattle.std.proofs.Common.{◌≡◌, true, rules}
use Rattle.message.specs.declared.kind.Kind.{Kind}
use Rattle.message.specs.Kind.{kind_number}
use Rattle.message.specs.Fields.{is_kind}

-- each number of a kind is one
pub is_number : (k : Kind) → is_kind (kind_number k) ≡ true
is_number k = search rules
