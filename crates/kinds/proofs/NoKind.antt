-- A number that is none of the kinds 1 to 13 is refused by 11.
use mathlib.Core.Bool.{false}
use mathlib.Core.Path.{◌≡◌, refl}
use Prim.Native.Nat.{ℕ}
use lib.ListN.{get_or-eq_default}
use Rattle.station.specs.declared.Station.{Station}
use Rattle.message.specs.declared.Message.{Message}
use Rattle.message.specs.Fields.{is_kind}
use Rattle.message.proofs.EachKind.{no-kind}
use Rattle.zone.specs.declared.Zone.{Zone}
use Rattle.zone.specs.Zone.{refused_in}
use Rattle.rules.specs.declared.Concerned.{Concerned}
use Rattle.rules.specs.Kinds.{row, rows, no_kind, answered}

-- its row is the one that refuses it
pub no_kind_lem : (k : ℕ) → is_kind k ≡ false → row k ≡ no_kind
unfolding row
no_kind_lem =
    no-kind (λ k. row k ≡ no_kind) refl (λ k past. get_or-eq_default rows no_kind past)

pub answered_none :
    (k : ℕ) (st : Station) (routes : Concerned) (z : Zone) (m : Message) → is_kind k ≡ false
    → answered k st routes z m ≡ refused_in z 11
unfolding answered
answered_none k st routes z m none = rw (no_kind_lem k none)
