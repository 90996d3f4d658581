-- The cases of sheets and routes: each computes.
use mathlib.Core.Path.{refl}
use Rattle.sets.specs.Range.{first_from, all_from, count_from}
use Rattle.sets.specs.Sets.{has, single, set_of, count}
use Rattle.sets.specs.Table.{values_from, places}
use Rattle.groups.specs.Groups.{carriers_among, tied_among}
use Rattle.layout.specs.Layout.{header_number, station_in}
use Rattle.group_records.specs.GroupRecords as groups
use Rattle.partner_records.specs.PartnerRecords.{good_turnout, bad_turnout, pair_number, renumbered}
use Rattle.sheet.specs.Sheet.{good_route, bad_route, routes_judged, judged, judged_by_partners, read_sheet}
use Rattle.sheet.specs.Cases.{SheetCases}

pub sheet-cases : SheetCases
unfolding first_from all_from count_from has single set_of count values_from places carriers_among tied_among
    header_number station_in groups.alike groups.good_turnout groups.bad_turnout good_turnout bad_turnout
    pair_number renumbered good_route bad_route routes_judged judged judged_by_partners read_sheet
sheet-cases = record {
  first-version = refl;
  second-version = refl;
  third-version = refl;
  high_byte = refl;
  numbers-as-partners = refl;
  flank-whole = refl;
  flank-part = refl;
  flank-beside = refl;
  parts-named = refl;
  two-positions = refl;
  same-position = refl;
  one-named = refl;
  flank-positions = refl;
  three-positions = refl;
  three-on-the-flank = refl;
}
