-- The cases of turnout records of version 1: each computes.
use mathlib.Core.Path.{refl}
use Rattle.sets.specs.Range.{first_from, count_from}
use Rattle.sets.specs.Sets.{single, set_of}
use Rattle.sets.specs.Table.{values_from, places}
use Rattle.groups.specs.Groups.{carriers_among, tied_among}
use Rattle.partner_records.specs.PartnerRecords.{good_turnout, bad_turnout, pair_number, renumbered}
use Rattle.partner_records.specs.Cases.{PartnerCases}

pub partner-cases : PartnerCases
unfolding first_from count_from single set_of values_from places carriers_among tied_among good_turnout bad_turnout
    pair_number renumbered
partner-cases = record {
  good-apart = refl;
  numbers_apart = refl;
  numbers-between = refl;
  numbers-side-by-side = refl;
  tied-apart = refl;
  not-named-back = refl;
  not-naming = refl;
}
