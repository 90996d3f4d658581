-- Cases of groups by hand, on stations that no sheet need have given: SHEET-3, SHEET-12, VALUE-1 and
-- VALUE-2 (docs/RULES.md). proofs/Cases.antt computes them.
use Rattle.std.specs.Prelude.{true, false, List, [], ◌∷◌, map, ◌≡◌, ℕ, eqb, replicate}
use Rattle.sets.specs.Range.{all_from}
use Rattle.station.specs.declared.Turnout.{Turnout}
use Rattle.station.specs.declared.Station.{Station}
use Rattle.station.specs.Station.{empty_route}
use Rattle.groups.specs.Groups.{tied, grouped, splits}

-- a turnout of a zone, with a drive, that carries a number
abbrev pub turnout : ℕ → ℕ → ℕ → Turnout
turnout zone drive number = record { zone = zone; group = number; drive = drive }

-- a station of p turnouts and two zones with these records; every number past them is 0
abbrev pub station_of : ℕ → List Turnout → Station
station_of p ts =
    record { turnouts = p; routes = 0; zones = 2; turnout = ts; route = replicate 64 empty_route }

-- 0, 2 and 5 carry 5, 3 and 6 carry 31. Alone are 1 and 11 by 255, 4 and 8 though both carry 32, 9 and
-- 10 though both carry 254, and 7, since no other carries 7
abbrev numbers : List ℕ
numbers = 5 ∷ 255 ∷ 5 ∷ 31 ∷ 32 ∷ 5 ∷ 31 ∷ 7 ∷ 32 ∷ 254 ∷ 254 ∷ 255 ∷ []

abbrev mixed : Station
mixed = station_of 12 (map (turnout 0 0) numbers)

-- two turnouts of which the first carries 0, as every record past them does
abbrev at_the_end : Station
at_the_end = station_of 2 (turnout 0 0 0 ∷ turnout 0 0 255 ∷ [])

-- nine turnouts of one number, over two zones and both drives
abbrev nine : Station
nine =
    station_of 9
    (turnout 0 0 3 ∷ turnout 1 0 3 ∷ turnout 0 1 3 ∷ replicate 6 (turnout 1 1 3))

-- 200 turnouts by their count: the 64 places count, of which all but the first two carry 0
abbrev many_by_count : Station
many_by_count = station_of 200 (turnout 0 0 9 ∷ turnout 0 0 9 ∷ [])

-- two turnouts that carry the number g
abbrev pair_with : ℕ → Station
pair_with g = station_of 2 (turnout 0 0 g ∷ turnout 0 0 g ∷ [])

pub record GroupCases : Type 0 where
  -- each number from 0 to 31 ties
  pub numbers-tie : all_from (λ g. eqb (tied (pair_with g) 1) 3) 0 32 ≡ true
  -- {0,2,5} and {3,6} are tied, every other is alone, also turnout 12, which is not below P
  pub tied-mixed :
      map (tied mixed) (0 ∷ 1 ∷ 2 ∷ 3 ∷ 4 ∷ 5 ∷ 6 ∷ 7 ∷ 8 ∷ 9 ∷ 10 ∷ 11 ∷ 12 ∷ [])
      ≡ 37 ∷ 2 ∷ 37 ∷ 72 ∷ 16 ∷ 37 ∷ 72 ∷ 128 ∷ 256 ∷ 512 ∷ 1024 ∷ 2048 ∷ 4096 ∷ []
  pub grouped-mixed :
      map (grouped mixed) (0 ∷ 1 ∷ 3 ∷ 4 ∷ 7 ∷ 8 ∷ 9 ∷ 12 ∷ [])
      ≡ true ∷ false ∷ true ∷ false ∷ false ∷ false ∷ false ∷ false ∷ []
  -- records past P belong to no group
  pub tied-at-the-end : map (tied at_the_end) (0 ∷ 1 ∷ 2 ∷ []) ≡ 1 ∷ 2 ∷ 4 ∷ []
  pub alone-at-the-end : grouped at_the_end 0 ≡ false
  -- VALUE-2: "also where it has more than 8 turnouts, or several zones or drives"
  pub tied-nine : map (tied nine) (0 ∷ 8 ∷ []) ≡ 511 ∷ 511 ∷ []
  pub grouped-nine : grouped nine 8 ≡ true
  pub tied-many : map (tied many_by_count) (1 ∷ 63 ∷ []) ≡ 3 ∷ 18446744073709551612 ∷ []
  -- {}, {0,2,5}, {0,2,5} with {3,6}, {1,4,7,9}: each group whole or not at all
  pub whole-mixed :
      map (splits mixed) (0 ∷ 37 ∷ 109 ∷ 658 ∷ []) ≡ false ∷ false ∷ false ∷ false ∷ []
  -- {0}, {0,2}, {3}, {0,2,5} with {6}: a part
  pub part-mixed : map (splits mixed) (1 ∷ 5 ∷ 8 ∷ 101 ∷ []) ≡ true ∷ true ∷ true ∷ true ∷ []
  pub whole-at-the-end : splits at_the_end 1 ≡ false
  -- eight of nine, and all nine
  pub part-nine : map (splits nine) (255 ∷ 511 ∷ []) ≡ true ∷ false ∷ []
