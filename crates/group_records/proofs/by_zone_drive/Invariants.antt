-- The invariant is the table filled so far.
use Rattle.std.proofs.Common.{◌≡◌, ℕ, List}
use lib.ListN.{get_or}
use Rattle.sets.specs.Table.{places}
use Rattle.station.specs.declared.Turnout.{Turnout}
use Rattle.station.specs.Station.{empty_turnout}
use Rattle.group_records.specs.GroupRecords.{as_zone_drive}
use Rattle.group_records.proofs.by_zone_drive.Given as goal

abbrev pub record_of : List Turnout → ℕ → Turnout
record_of ts k = as_zone_drive (get_or ts k empty_turnout)

abbrev pub invariant-loop-i : goal.invariant-loop-i
invariant-loop-i l = l.out ≡ places (record_of l.ts) l.i empty_turnout
