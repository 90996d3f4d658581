-- Station K's cases, in one proof: each computes.
use mathlib.Core.Path.{refl}
use Rattle.sets.specs.Range.{first_from, all_from, count_from}
use Rattle.sets.specs.Sets.{has, single, set_of, count, lowest}
use Rattle.sets.specs.Table.{values_from, places}
use Rattle.message.specs.Fields.{named, fields_kept, field_number}
use Rattle.message.specs.Record.{decoded, head_bytes, encoded, read_record}
use Rattle.groups.specs.Groups.{carriers_among, tied_among, grouped}
use Rattle.station.specs.Station.{zone_turnouts, the_route}
use Rattle.groups.specs.Groups.{splits}
use Rattle.layout.specs.Layout.{header_number, station_in}
use Rattle.partner_records.specs.PartnerRecords.{good_turnout, bad_turnout, pair_number, renumbered}
use Rattle.sheet.specs.Sheet.{good_route, bad_route, routes_judged, judged_by_partners, read_sheet}
use Rattle.signals.specs.Answer as Verdicts
use Rattle.durations.specs.Minutes.{minutes_between}
use Rattle.zone.specs.Movement.{regime_on}
use Rattle.zone.specs.Trains.{movement_under, no_place, named_standing, cleared_standing, placed}
use Rattle.zone.specs.Trains.{changed}
use Rattle.rules.specs.Clearance.{clearance_fits}
use Rattle.rules.specs.Kinds.{row, work_after, moved, recorder_after, minutes_for, zone_after, answered}
use Rattle.rules.specs.Kinds.{heard_on, heard}
use Rattle.desk.specs.Desk.{fresh_desk, reached, applied, applied_record}
use Rattle.desk.specs.Questions.{movement_answered, work_answered}
use Rattle.journal.specs.Journal.{is_journal, journal_number, counted, records_from, records}
use Rattle.report.specs.Answers.{with_answer}
use Rattle.report.specs.Text.{digits, decimal, line_of, lines_from, text_of}
use Rattle.history.specs.Since.{any}
use Rattle.history.specs.Lists.{after, answers, accepted, of_zone}
use Rattle.replay.specs.Replay.{inputs_of, stored_from, ran, replayed}
use Rattle.worked_cases.specs.Cases.{Cases}

pub station-k : Cases
unfolding read_sheet header_number station_in places values_from judged_by_partners routes_judged
    bad_turnout bad_route good_turnout good_route renumbered pair_number
    first_from all_from count_from tied_among carriers_among has single count lowest
    after answers accepted of_zone reached applied applied_record
    read_record decoded head_bytes encoded named fields_kept field_number
    heard heard_on answered row work_after moved movement_under no_place named_standing cleared_standing
    placed changed recorder_after minutes_for minutes_between zone_after
    zone_turnouts set_of splits the_route grouped regime_on clearance_fits any
    fresh_desk movement_answered work_answered
    is_journal journal_number counted records_from records
    inputs_of replayed ran stored_from with_answer
    text_of lines_from line_of decimal digits Verdicts.judged
station-k = record {
  sheet = refl;
  output = refl;
  journal = refl;
  text = refl;
  open-3 = refl;
  shut-6 = refl;
  other-6 = refl;
  shut-10 = refl;
  one_end = refl;
  both_ends = refl;
  turnout-3 = refl;
  turnout-3-too = refl;
  verbal-b = refl;
  verbal-a = refl;
  declaration-3 = refl;
  declaration-8-clamp = refl;
  declaration-8 = refl;
  voice = refl;
  written = refl;
  time-equal = refl;
  time-less = refl;
  seconds-30 = refl;
  seconds-59 = refl;
  seconds-60 = refl;
  seconds-90 = refl;
  seconds-150 = refl;
  signal-1 = refl;
  signal-2 = refl;
  line-2 = refl;
  covers_one = refl;
  covers-both = refl;
  covers-one-2 = refl;
  covers-both-2 = refl;
  covers-both-3 = refl;
  alone-covers-both = refl;
  alone-covers-itself = refl;
  d5-2 = refl;
  alone-d5-2 = refl;
  key-not-worked = refl;
  key-Tcl = refl;
  key-Es = refl;
  lacking-before = refl;
  lacking-after = refl;
  clear-ordered = refl;
  open-with-key = refl;
  second-Tcl = refl;
  second-Es = refl;
  clearance-over-key = refl;
  lapsed-passed = refl;
  lapsed-cancelled = refl;
  key-over-Es = refl;
  key-over-Tcl = refl;
  heard-3 = refl;
  heard-6 = refl;
  heard-8 = refl;
  heard-10 = refl;
  heard-11 = refl;
  heard-keyed = refl;
  heard-next = refl;
  fresh-movement = refl;
  only-movement = refl;
  of-route-0 = refl;
  not-allowed = refl;
  taken-for-both = refl;
  clear-for-both = refl;
  of-route-2 = refl;
  taken-unkept = refl;
  held-unkept = refl;
  taken-outlived = refl;
  clear-outlived = refl;
}
