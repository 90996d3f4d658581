-- The cases of groups: each computes.
use mathlib.Core.Path.{refl}
use Rattle.sets.specs.Range.{all_from, count_from}
use Rattle.sets.specs.Sets.{has, single, set_of, count}
use Rattle.groups.specs.Groups.{carriers_among, tied_among, grouped, splits}
use Rattle.groups.specs.Cases.{GroupCases}

pub group-cases : GroupCases
unfolding all_from count_from has single set_of count carriers_among tied_among grouped splits
group-cases = record {
  numbers-tie = refl;
  tied-mixed = refl;
  grouped-mixed = refl;
  tied-at-the-end = refl;
  alone-at-the-end = refl;
  tied-nine = refl;
  grouped-nine = refl;
  tied-many = refl;
  whole-mixed = refl;
  part-mixed = refl;
  whole-at-the-end = refl;
  part-nine = refl;
}
