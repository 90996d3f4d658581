-- Counts in range are those that pass the header's test.
use mathlib.Core.Bool.{true}
use mathlib.Core.Path.{◌≡◌}
use borrow.Author.Tests.{le-leb}
use Rattle.station.specs.declared.Station.{Station}
use Rattle.layout.specs.Counts.{GoodCounts}
use Rattle.layout.specs.Layout.{counts_kept}
use Rattle.layout.proofs.Header.{in-range}

-- counts that pass the header's test are in range
pub counts-in-range :
    (st : Station) → counts_kept st.turnouts st.routes st.zones ≡ true → GoodCounts st
counts-in-range st h =
    let kept = in-range st.turnouts st.routes st.zones h in
    record {
      some-turnout = kept.0;
      turnouts-limit = kept.1;
      routes-limit = kept.2;
      some-zone = kept.3;
      zones-limit = kept.4;
    }

-- and the other way about
pub counts-kept :
    (st : Station) → GoodCounts st → counts_kept st.turnouts st.routes st.zones ≡ true
counts-kept st c =
    rw (
      le-leb 1 st.turnouts c.some-turnout,
      le-leb st.turnouts 64 c.turnouts-limit,
      le-leb st.routes 64 c.routes-limit,
      le-leb 1 st.zones c.some-zone,
      le-leb st.zones 8 c.zones-limit,
    )
