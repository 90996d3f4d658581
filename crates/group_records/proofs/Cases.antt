-- The cases of turnout records of version 2: each computes.
use mathlib.Core.Path.{refl}
use Rattle.sets.specs.Range.{first_from, all_from, count_from}
use Rattle.sets.specs.Sets.{has, single, set_of, count}
use Rattle.groups.specs.Groups.{carriers_among, tied_among}
use Rattle.group_records.specs.GroupRecords.{alike, good_turnout, bad_turnout}
use Rattle.group_records.specs.Cases.{RecordCases}

pub record-cases : RecordCases
unfolding first_from all_from count_from has single set_of count carriers_among tied_among alike good_turnout bad_turnout
record-cases = record {
  two = refl;
  three = refl;
  three-by-hand = refl;
  eight = refl;
  nine = refl;
  one = refl;
  four-to-seven = refl;
  between = refl;
  two-zones = refl;
  two-drives = refl;
  numbers-kept = refl;
  others-not = refl;
  before-it = refl;
  after-it = refl;
  later-zone = refl;
  later-drive = refl;
  two-wrong = refl;
}
