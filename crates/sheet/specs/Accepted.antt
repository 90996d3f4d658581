-- What an accepted sheet, of either version, guarantees of its station: SHEET-1 to SHEET-3, SHEET-5 to
-- SHEET-9 and SHEET-12 (docs/RULES.md), sentence by sentence. What it guarantees of a turnout is
-- `GoodTurnout` of the crate `group_records`. The claim stands at the end; proofs/Accepted.antt proves it.
use Rattle.std.specs.Prelude.{true, false, List, ◌≡◌, ℕ, ◌≤◌, ◌<◌}
use Rattle.std.specs.Int.Bits.{bit_and}
use Rattle.sets.specs.Sets.{has, is_empty, overlaps, within, count}
use Rattle.station.specs.declared.Station.{Station}
use Rattle.station.specs.Station.{empty_turnout, empty_route, turnout_at, route_at, zone_of, named_by}
use Rattle.groups.specs.Groups.{tied, whole}
use Rattle.layout.specs.Counts.{GoodCounts}
use Rattle.group_records.specs.GroupRecords.{good_turnout}
use Rattle.group_records.specs.Guaranteed.{GoodTurnout}
use Rattle.sheet.specs.Sheet.{good_route, read_sheet}

-- what SHEET-5 to SHEET-9 ask of route r
pub record GoodRoute (st : Station) (r : ℕ) : Type 0 where
  -- SHEET-5: "The first three are pairwise disjoint"
  pub over-flank : overlaps (route_at st r).over (route_at st r).flank ≡ false
  pub over-exits : overlaps (route_at st r).over (route_at st r).exits ≡ false
  pub flank-exits : overlaps (route_at st r).flank (route_at st r).exits ≡ false
  -- SHEET-5, SHEET-6: "their union is what the route names. It lies among the P turnouts, ..
  pub named-below : (t : ℕ) → has (named_by (route_at st r)) t ≡ true → t < st.turnouts
  -- .. in the route's zone"
  pub named-zone :
      (t : ℕ) → has (named_by (route_at st r)) t ≡ true → zone_of st t ≡ (route_at st r).zone
  -- SHEET-7: "run over is not empty"
  pub runs-over : is_empty (route_at st r).over ≡ false
  -- SHEET-7: "reverse lies within the union"
  pub reverse-named : within (route_at st r).reverse (named_by (route_at st r)) ≡ true
  -- SHEET-8: "it must take a group whole or not at all, and so must the flank of a route"
  pub flank-whole :
      (t : ℕ) → t < st.turnouts → has (route_at st r).flank t ≡ true
      → within (tied st t) (route_at st r).flank ≡ true
  -- SHEET-9: "The rule of equal position holds for groups of two."
  pub one-position :
      (t : ℕ) → t < st.turnouts → count (tied st t) ≡ 2
      → whole (bit_and (tied st t) (named_by (route_at st r))) (route_at st r).reverse ≡ true

-- what the reader's tests find of a station that it gives: counts in range, no bad record, nothing
-- past the counts
pub record Passed (st : Station) : Type 0 where
  pub counts : GoodCounts st
  pub turnout : (n : ℕ) → n < st.turnouts → good_turnout st n ≡ true
  pub route : (r : ℕ) → r < st.routes → good_route st r ≡ true
  pub past-turnouts : (n : ℕ) → st.turnouts ≤ n → turnout_at st n ≡ empty_turnout
  pub past-routes : (r : ℕ) → st.routes ≤ r → route_at st r ≡ empty_route

-- all that SHEET-1 to SHEET-3, SHEET-5 to SHEET-9 and SHEET-12 ask of a station
pub record Accepted (st : Station) : Type 0 where
  pub counts : GoodCounts st
  pub turnout : (n : ℕ) → n < st.turnouts → GoodTurnout st n
  pub route : (r : ℕ) → r < st.routes → GoodRoute st r
  -- SHEET-12: "Records past P and R are 0 in the station."
  pub past-turnouts : (n : ℕ) → st.turnouts ≤ n → turnout_at st n ≡ empty_turnout
  pub past-routes : (r : ℕ) → st.routes ≤ r → route_at st r ≡ empty_route

-- The claim, of all bytes.
abbrev pub EachAccepted : Type 0
EachAccepted = (s : List ℕ) → (read_sheet s).code ≡ 0 → Accepted (read_sheet s).station
