use Rattle.std.proofs.Common.{◌≡◌, ℕ, ◌<◌, List, sym, ap, ◌∙◌, arith}
use mathlib.Core.Path.{ap₂}
use Prim.Native.Nat.{min}
use lib.ListN.{set}
use Rattle.sets.specs.Table.{places}
use Rattle.sets.proofs.Tables.{places-none, places-next, places-limit}
use Rattle.station.specs.declared.Turnout.{Turnout}
use Rattle.station.specs.Station.{empty_turnout}
use Rattle.group_records.specs.GroupRecords.{by_zone_drive}
use Rattle.group_records.proofs.by_zone_drive.Invariants.{record_of}
use Rattle.group_records.proofs.by_zone_drive.Goals as goal

pub loop-i-init : goal.loop-i-init
loop-i-init c = sym (places-none (record_of c.args.ts) empty_turnout)

pub loop-i-preserved : goal.loop-i-preserved
loop-i-preserved c =
    let i = c.loop-i.i in
    let inside : i < 64 = omega arith in
    ap₂ (λ (l : List Turnout) (t : Turnout). set l i t) c.loop-i.invariant c.as_zone_drive.ensures
    ∙ places-next (record_of c.args.ts) i empty_turnout inside

pub returns : goal.returns
unfolding by_zone_drive
returns c =
    let ts = c.args.ts in
    let all : c.loop-i.i ≡ min c.args.p 64 = omega arith in
    c.loop-i.invariant
    ∙ ap (λ (m : ℕ). places (record_of ts) m empty_turnout) all
    ∙ places-limit (record_of ts) c.args.p empty_turnout
