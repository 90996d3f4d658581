-- Below 8 the zone stands in its place; from 8 on the desk has none.
use Rattle.std.proofs.Common.{sym, ◌∙◌}
use lib.ListN.{get_or-eq_default}
use Rattle.zone.specs.Zone.{no_zone}
use Rattle.desk_bytes.specs.Encoding.{desk_in}
use Rattle.desk_bytes.proofs.ZonePlaces.{zone-place}
use Rattle.desk_bytes.proofs.zone_at.Goals as goal

pub returns-then-k-lt-ZONES : goal.returns-then-k-lt-ZONES
returns-then-k-lt-ZONES c =
    c.zone_in.ensures ∙ sym (zone-place c.args.s.now c.args.k c.if-k-lt-ZONES.true)

pub returns : goal.returns
unfolding desk_in
returns c = sym (get_or-eq_default (desk_in c.args.s.now).zones no_zone c.if-k-lt-ZONES.false)
