-- Cases of sheets and routes by hand: K-1, SHEET-8, SHEET-9, SHEET-11 and SHEET-14 (docs/RULES.md).
-- proofs/Cases.antt computes them.
use Rattle.std.specs.Prelude.{List, [], ◌∷◌, map, ◌≡◌, ℕ, replicate, length}
use Rattle.station.specs.declared.Route.{Route}
use Rattle.station.specs.declared.Station.{Station}
use Rattle.station.specs.Station.{empty_turnout, empty_route}
use Rattle.groups.specs.Cases.{turnout}
use Rattle.sheet.specs.Sheet.{Finding}
use Rattle.sheet.specs.Sheet.{bad_route, read_sheet, accepted_sheet, finding_of}

-- K-1: "route 0 runs over {0}, flank {2}, reverse empty"
abbrev route_k : List ℕ
route_k =
    0
    ∷ 0 ∷ 0 ∷ 0 ∷ 0 ∷ 0 ∷ 0 ∷ 0 ∷ 1
    ∷ 0 ∷ 0 ∷ 0 ∷ 0 ∷ 0 ∷ 0 ∷ 0 ∷ 4
    ∷ 0 ∷ 0 ∷ 0 ∷ 0 ∷ 0 ∷ 0 ∷ 0 ∷ 0
    ∷ 0 ∷ 0 ∷ 0 ∷ 0 ∷ 0 ∷ 0 ∷ 0 ∷ 0
    ∷ []

-- K-1: "P = 3, Z = 1, R = 1; 0 and 1 an electric crossover, 2 alone by hand ..: 50 bytes.", of version 1
abbrev pub sheet_k : List ℕ
sheet_k =
    83 ∷ 80 ∷ 84 ∷ 0 ∷ 1 ∷ 3 ∷ 1 ∷ 1
    ∷ 0 ∷ 1 ∷ 0
    ∷ 0 ∷ 0 ∷ 0
    ∷ 0 ∷ 255 ∷ 1
    ∷ route_k

-- the same of version 2, in which 0 and 1 are group 0; of version 3 and of 258, whose low byte is 2
abbrev of_version : ℕ → ℕ → List ℕ
of_version high low =
    83 ∷ 80 ∷ 84 ∷ high ∷ low ∷ 3 ∷ 1 ∷ 1
    ∷ 0 ∷ 0 ∷ 0
    ∷ 0 ∷ 0 ∷ 0
    ∷ 0 ∷ 255 ∷ 1
    ∷ route_k

abbrev pub station_k_by_hand : Station
station_k_by_hand = record {
  turnouts = 3;
  routes = 1;
  zones = 1;
  turnout = turnout 0 0 0 ∷ turnout 0 0 0 ∷ turnout 0 1 255 ∷ replicate 61 empty_turnout;
  route =
      record { zone = 0; over = 1; flank = 4; exits = 0; reverse = 0 } ∷ replicate 63 empty_route;
}

abbrev finding : ℕ → ℕ → Finding
finding number place = record { code = number; index = place }

-- a route by the sets that it runs over, of its flank, its exit zone and reverse
abbrev route : ℕ → ℕ → ℕ → ℕ → Route
route over flank exits reverse =
    record { zone = 0; over = over; flank = flank; exits = exits; reverse = reverse }

-- a station of six turnouts: 0, 2 and 5 are a group, 3 and 4 another, 1 is alone
abbrev routed : List Route → Station
routed rs = record {
  turnouts = 6;
  routes = length rs;
  zones = 1;
  turnout = map (turnout 0 0) (5 ∷ 255 ∷ 5 ∷ 1 ∷ 1 ∷ 5 ∷ []);
  route = rs;
}

-- the first bad one of these routes after a good one; 2 where both are good
abbrev second : Route → ℕ
second r = bad_route (routed (route 2 0 0 0 ∷ r ∷ []))

pub record SheetCases : Type 0 where
  -- station K in version 1 and in version 2 gives the same station
  pub first-version : read_sheet sheet_k ≡ accepted_sheet station_k_by_hand
  pub second-version : read_sheet (of_version 0 2) ≡ accepted_sheet station_k_by_hand
  pub third-version : finding_of (read_sheet (of_version 0 3)) ≡ finding 3 0
  pub high_byte : finding_of (read_sheet (of_version 1 2)) ≡ finding 3 0
  -- version 2's numbers are no partners: 0 names itself
  pub numbers-as-partners : finding_of (read_sheet (of_version 0 1)) ≡ finding 5 0
  -- SHEET-8: the flank takes {0,2,5} whole, {0,2} alone, {0,2} with 5 run over
  pub flank-whole : second (route 2 37 0 0) ≡ 2
  pub flank-part : second (route 2 5 0 0) ≡ 1
  pub flank-beside : second (route 34 5 0 0) ≡ 1
  -- run over and exit zone may name a part
  pub parts-named : second (route 1 0 8 0) ≡ 2
  -- SHEET-9: a group of two with one of them reverse, with both, with one named; on the flank
  pub two-positions : second (route 24 0 0 8) ≡ 1
  pub same-position : second (route 24 0 0 24) ≡ 2
  pub one-named : second (route 8 0 0 8) ≡ 2
  pub flank-positions : second (route 2 24 0 16) ≡ 1
  -- a group of three with one of them reverse, run over and on the flank
  pub three-positions : second (route 37 0 0 1) ≡ 2
  pub three-on-the-flank : second (route 2 37 0 36) ≡ 2
