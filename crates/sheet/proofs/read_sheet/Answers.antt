use Rattle.std.proofs.Common.{rules, ◌∙◌, sym, Ok, Err}
use Rattle.sheet.proofs.Reading.{header-refused, turnouts-refused, routes-read, routes-refused, with_turnouts}
use Rattle.sheet.proofs.read_sheet.Goals as goal

pub returns-in_err-check_header : goal.returns-in_err-check_header
returns-in_err-check_header c =
    let refused = c.in_err-check_header in
    let told = header-refused c.args.s.now refused.field-0.0 refused.ensures in
    search rules

-- a bad turnout
pub returns-in_err-judge_turnouts : goal.returns-in_err-judge_turnouts
returns-in_err-judge_turnouts c =
    let refused = c.in_err-judge_turnouts in
    let version = c.version_of-version in
    let station = c.station_in-station in
    let told =
    turnouts-refused c.args.s.now version.result station.result refused.field-0.0
    (sym c.in_ok-check_header.ensures) version.ensures station.ensures refused.ensures in
    search rules

-- good turnouts and a bad route
pub returns-in_err-judge_routes : goal.returns-in_err-judge_routes
returns-in_err-judge_routes c =
    let refused = c.in_err-judge_routes in
    let station = c.station_in-station in
    let numbered = c.grouped_turnouts-station in
    let told =
    routes-read c.args.s.now c.version_of-version.result station.result numbered.result (Err refused.field-0.0)
    (sym c.in_ok-check_header.ensures) c.version_of-version.ensures station.ensures
    c.in_ok-judge_turnouts.ensures numbered.ensures refused.ensures in
    let same = sym (told ∙ routes-refused refused.field-0.0 (with_turnouts station.result numbered.result)) in
    search rules

-- all good
pub returns : goal.returns
returns c =
    let station = c.station_in-station in
    let numbered = c.grouped_turnouts-station in
    sym (routes-read c.args.s.now c.version_of-version.result station.result numbered.result (Ok tt)
    (sym c.in_ok-check_header.ensures) c.version_of-version.ensures station.ensures
    c.in_ok-judge_turnouts.ensures numbered.ensures c.in_ok-judge_routes.ensures)
