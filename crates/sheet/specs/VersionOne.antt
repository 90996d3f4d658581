-- What the routes of a sheet of version 1 still mean: document 01's rules by partners, and that the
-- groups of its crossovers say the same. The claim stands at the end; proofs/VersionOne.antt proves it.
use Rattle.std.specs.Prelude.{Bool, true, not, ◌&&◌, ◌||◌, ◌≡◌, ℕ, ◌<◌, eqb}
use Rattle.std.specs.Int.Bits.{bit_and}
use Rattle.sets.specs.Range.{all_from}
use Rattle.sets.specs.Sets.{has, within}
use Rattle.station.specs.declared.Turnout.{Turnout}
use Rattle.station.specs.declared.Route.{Route}
use Rattle.station.specs.declared.Station.{Station}
use Rattle.station.specs.Station.{turnout_at, route_at, turnout_count, named_by}
use Rattle.groups.specs.Groups.{whole}
use Rattle.layout.specs.Counts.{GoodCounts}
use Rattle.partner_records.specs.PartnerRecords.{good_turnout, renumbered}
use Rattle.partner_records.specs.Crossovers.{pair_of}
use Rattle.sheet.specs.Sheet.{sets_kept, good_route}

-- what a route asks of turnout n, its record t and the pair of it and its partner: SHEET-6; SHEET-8:
-- "A flank turnout's partner is flank too (Art. 3.24)"; SHEET-9: "Both ends of a crossover, if named,
-- have the same position"
abbrev pub member_by_partners : Route → ℕ → Turnout → ℕ → Bool
member_by_partners r n t pair =
    (not (has (named_by r) n) || eqb t.zone r.zone)
    && (not (has r.flank n) || within pair r.flank)
    && whole (bit_and pair (named_by r)) r.reverse

abbrev pub route_by_partners : Station → ℕ → Bool
route_by_partners st n =
    let r = route_at st n in
    sets_kept (turnout_count st) r
    && all_from (λ t. member_by_partners r t (turnout_at st t) (pair_of st t)) 0 (turnout_count st)

-- The claim, of every station in the bytes of a sheet of version 1 whose turnouts are good: a route is
-- good by the groups exactly when it is by the partners.
abbrev pub EachByPartners : Type 0
EachByPartners =
    (st : Station) → GoodCounts st → ((n : ℕ) → n < st.turnouts → good_turnout st n ≡ true)
    → (r : ℕ) → good_route (renumbered st) r ≡ route_by_partners st r
