use Rattle.rules.proofs.ByRecords.{concerned-by-records}
use Rattle.rules.proofs.routes.routes_concerned.Goals as goal

pub returns : goal.returns
returns c =
    rw (
      c.by_records.ensures,
      c.route_index-2.ensures.value,
      c.route_index.ensures.value,
      c.route_numbers-n.ensures,
    )
    (concerned-by-records c.args.st c.args.z c.args.m)
