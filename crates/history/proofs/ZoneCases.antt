-- The cases of M-106 on the station of two zones, in one proof: each computes.
use mathlib.Core.Path.{◌≡◌, refl, ap}
use Prim.Native.Nat.{ℕ}
use native.Mathlib.Omega.{arith}
use lib.ListN.{length}
use Rattle.sets.specs.Range.{first_from, all_from, count_from}
use Rattle.sets.specs.Sets.{has, single, set_of, count, lowest}
use Rattle.sets.specs.Table.{values_from, places}
use Rattle.message.specs.Fields.{named, fields_kept, field_number}
use Rattle.message.specs.Record.{decoded, head_bytes, encoded, read_record}
use Rattle.groups.specs.Groups.{carriers_among, tied_among, grouped}
use Rattle.station.specs.Station.{zone_turnouts, the_route}
use Rattle.groups.specs.Groups.{splits}
use Rattle.layout.specs.Layout.{header_number, station_in}
use Rattle.partner_records.specs.PartnerRecords.{good_turnout, bad_turnout, pair_number, renumbered}
use Rattle.sheet.specs.Sheet.{good_route, bad_route, routes_judged, judged_by_partners, read_sheet}
use Rattle.durations.specs.Minutes.{minutes_between}
use Rattle.zone.specs.Movement.{regime_on}
use Rattle.zone.specs.Trains.{movement_under, no_place, named_standing, cleared_standing, placed}
use Rattle.zone.specs.Trains.{changed}
use Rattle.rules.specs.Clearance.{clearance_fits}
use Rattle.rules.specs.Kinds.{row, work_after, moved, recorder_after, minutes_for, zone_after, answered}
use Rattle.rules.specs.Kinds.{heard_on, heard}
use Rattle.desk.specs.Desk.{fresh_desk, reached, applied, applied_record}
use Rattle.desk.specs.Questions.{movement_answered, work_answered}
use Rattle.history.specs.Lists.{after, accepted, of_zone}
use Rattle.history.specs.Separation.{belonging, zone_answers}
use Rattle.history.specs.ZoneCases.{ZoneCases}

pub two-zones : ZoneCases
unfolding read_sheet header_number station_in places values_from judged_by_partners routes_judged
    bad_turnout bad_route good_turnout good_route renumbered pair_number
    first_from all_from count_from tied_among carriers_among has single count lowest
    after accepted of_zone belonging zone_answers reached applied applied_record
    read_record decoded head_bytes encoded named fields_kept field_number
    heard heard_on answered row work_after moved movement_under no_place named_standing cleared_standing
    placed changed recorder_after minutes_for minutes_between zone_after
    zone_turnouts set_of splits the_route grouped regime_on clearance_fits
    fresh_desk movement_answered work_answered
two-zones = record {
  sheet = refl;
  messages-0 = refl;
  records-0 = refl;
  messages-1 = refl;
  records-1 = refl;
  accepted-0 = refl;
  of-no-zone = refl;
  nor-of-zone-2 = refl;
  third-zone = refl;
  alike = refl;
  refused-counts = λ e. eight-not-seven (ap length e);
  answers-quiet = refl;
  answers-busy = refl;
  answers-1 = refl;
  movement-0 = refl;
  movement-1 = refl;
  work-1 = refl;
  fresh-1 = refl;
  clock-alike = refl;
  clock-alone = refl;
  clock-later = refl;
  recorder-alike = refl;
  recorder-alone = refl;
  recorder-out = refl;
  agreement-alike = refl;
  agreement-alone = refl;
  agreement-beside = refl;
  movement-alike = refl;
  movement-alone = refl;
  movement-beside = refl;
  work-alike = refl;
  of-zone-1 = refl;
  work-alone = refl;
  work-beside = refl;
}
  where
    eight-not-seven : ◌≡◌ {A = ℕ} 8 7 → ⊥
    eight-not-seven e = omega arith
