-- Cases of turnout records of version 1 by hand: SHEET-13 and SHEET-14 (docs/RULES.md), on stations of
-- electric turnouts of zone 0 with these partners. proofs/Cases.antt computes them.
use Rattle.std.specs.Prelude.{List, [], ◌∷◌, map, ◌≡◌, ℕ, length, take}
use Rattle.station.specs.declared.Turnout.{Turnout}
use Rattle.station.specs.declared.Station.{Station}
use Rattle.groups.specs.Groups.{tied}
use Rattle.groups.specs.Cases.{turnout, station_of}
use Rattle.partner_records.specs.PartnerRecords.{bad_turnout, renumbered}

abbrev partnered : List ℕ → Station
partnered partners = station_of (length partners) (map (turnout 0 0) partners)

-- the numbers that the first turnouts carry, their crossovers being groups
abbrev numbers_for : List ℕ → List ℕ
numbers_for partners = map (λ (t : Turnout). t.group) (renumbered (partnered partners)).turnout

-- the crossovers of 0 with 5 and of 2 with 3; of 0 with 4, of 1 with 2 and of 3 with 5
abbrev apart : List ℕ
apart = 5 ∷ 255 ∷ 3 ∷ 2 ∷ 255 ∷ 0 ∷ 255 ∷ []

abbrev between : List ℕ
between = 4 ∷ 2 ∷ 1 ∷ 5 ∷ 0 ∷ 3 ∷ []

-- 32 crossovers side by side
abbrev side_by_side : List ℕ
side_by_side =
    1 ∷ 0 ∷ 3 ∷ 2 ∷ 5 ∷ 4 ∷ 7 ∷ 6 ∷ 9 ∷ 8 ∷ 11 ∷ 10 ∷ 13 ∷ 12 ∷ 15 ∷ 14
    ∷ 17 ∷ 16 ∷ 19 ∷ 18 ∷ 21 ∷ 20 ∷ 23 ∷ 22 ∷ 25 ∷ 24 ∷ 27 ∷ 26 ∷ 29 ∷ 28 ∷ 31 ∷ 30
    ∷ 33 ∷ 32 ∷ 35 ∷ 34 ∷ 37 ∷ 36 ∷ 39 ∷ 38 ∷ 41 ∷ 40 ∷ 43 ∷ 42 ∷ 45 ∷ 44 ∷ 47 ∷ 46
    ∷ 49 ∷ 48 ∷ 51 ∷ 50 ∷ 53 ∷ 52 ∷ 55 ∷ 54 ∷ 57 ∷ 56 ∷ 59 ∷ 58 ∷ 61 ∷ 60 ∷ 63 ∷ 62
    ∷ []

pub record PartnerCases : Type 0 where
  -- all are good
  pub good-apart : bad_turnout (partnered apart) ≡ 7
  -- "The crossovers of version 1 become groups, numbered from 0 in the order of their lower ends: the
  -- crossovers of 0 with 5 and of 2 with 3 are groups 0 and 1"
  pub numbers_apart : take 8 (numbers_for apart) ≡ 0 ∷ 255 ∷ 1 ∷ 1 ∷ 255 ∷ 0 ∷ 255 ∷ 0 ∷ []
  pub numbers-between : take 7 (numbers_for between) ≡ 0 ∷ 1 ∷ 1 ∷ 2 ∷ 0 ∷ 2 ∷ 0 ∷ []
  pub numbers-side-by-side :
      numbers_for side_by_side
      ≡ 0 ∷ 0 ∷ 1 ∷ 1 ∷ 2 ∷ 2 ∷ 3 ∷ 3 ∷ 4 ∷ 4 ∷ 5 ∷ 5 ∷ 6 ∷ 6 ∷ 7 ∷ 7
      ∷ 8 ∷ 8 ∷ 9 ∷ 9 ∷ 10 ∷ 10 ∷ 11 ∷ 11 ∷ 12 ∷ 12 ∷ 13 ∷ 13 ∷ 14 ∷ 14 ∷ 15 ∷ 15
      ∷ 16 ∷ 16 ∷ 17 ∷ 17 ∷ 18 ∷ 18 ∷ 19 ∷ 19 ∷ 20 ∷ 20 ∷ 21 ∷ 21 ∷ 22 ∷ 22 ∷ 23 ∷ 23
      ∷ 24 ∷ 24 ∷ 25 ∷ 25 ∷ 26 ∷ 26 ∷ 27 ∷ 27 ∷ 28 ∷ 28 ∷ 29 ∷ 29 ∷ 30 ∷ 30 ∷ 31 ∷ 31
      ∷ []
  -- what is tied together then: {0,5} and {2,3}
  pub tied-apart :
      map (tied (renumbered (partnered apart))) (0 ∷ 1 ∷ 2 ∷ 3 ∷ 5 ∷ [])
      ≡ 33 ∷ 2 ∷ 12 ∷ 12 ∷ 33 ∷ []
  -- "where 0 names 1 and 1 names none, the index is 0; where 0 names none and 1 names 0, it is 1"
  pub not-named-back : bad_turnout (partnered (1 ∷ 255 ∷ [])) ≡ 0
  pub not-naming : bad_turnout (partnered (255 ∷ 0 ∷ [])) ≡ 1
