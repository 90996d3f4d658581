-- Cases of turnout records of version 2 by hand: SHEET-2, SHEET-3 and SHEET-11 (docs/RULES.md), on
-- stations of two zones. Each number is the index of the first bad record, or the count of turnouts
-- where all are good. proofs/Cases.antt computes them.
use Rattle.std.specs.Prelude.{true, List, [], ◌∷◌, ◌++◌, map, ◌≡◌, ℕ, eqb, replicate, length}
use Rattle.sets.specs.Range.{all_from}
use Rattle.station.specs.declared.Turnout.{Turnout}
use Rattle.groups.specs.Cases.{turnout, station_of}
use Rattle.group_records.specs.GroupRecords.{bad_turnout}

-- the first bad record of these
abbrev first_bad : List Turnout → ℕ
first_bad ts = bad_turnout (station_of (length ts) ts)

-- so many electric turnouts of zone 0 that carry a number
abbrev electric : ℕ → ℕ → List Turnout
electric n number = replicate n (turnout 0 0 number)

-- a turnout alone, and one of zone 2, which is not below Z, and one of drive 2
abbrev alone : Turnout
alone = turnout 1 1 255

abbrev bad_zone : ℕ → Turnout
bad_zone number = turnout 2 0 number

abbrev bad_drive : ℕ → Turnout
bad_drive number = turnout 0 2 number

pub record RecordCases : Type 0 where
  -- "A group has 2 to 8 turnouts": of two, three and eight, of one and nine; hand turnouts too
  pub two : first_bad (electric 2 0) ≡ 2
  pub three : first_bad (alone ∷ electric 3 31) ≡ 4
  pub three-by-hand : first_bad (replicate 3 (turnout 1 1 6)) ≡ 3
  pub eight : first_bad (electric 8 4) ≡ 8
  pub nine : first_bad (alone ∷ electric 9 4) ≡ 1
  pub one : first_bad (alone ∷ alone ∷ electric 1 9) ≡ 2
  pub four-to-seven :
      map (λ n. first_bad (electric n 4)) (4 ∷ 5 ∷ 6 ∷ 7 ∷ []) ≡ 4 ∷ 5 ∷ 6 ∷ 7 ∷ []
  -- eight of one number and two of another, not side by side
  pub between : first_bad (electric 4 7 ++ electric 1 8 ++ electric 4 7 ++ electric 1 8) ≡ 10
  -- "of one zone and one drive"
  pub two-zones : first_bad (alone ∷ turnout 0 0 5 ∷ turnout 1 0 5 ∷ []) ≡ 1
  pub two-drives : first_bad (alone ∷ turnout 0 0 5 ∷ turnout 0 1 5 ∷ []) ≡ 1
  -- "a group number, 0 to 31 or 255 for alone"
  pub numbers-kept : all_from (λ g. eqb (first_bad (electric 2 g)) 2) 0 32 ≡ true
  pub others-not :
      map (λ g. first_bad (alone ∷ electric 2 g)) (32 ∷ 40 ∷ 128 ∷ 254 ∷ []) ≡ 1 ∷ 1 ∷ 1 ∷ 1 ∷ []
  -- "reported at the first turnout that carries that number": 3 is the first carrier of a group of
  -- one, with record 2 bad by itself and with record 5
  pub before-it :
      first_bad (alone ∷ alone ∷ bad_zone 255 ∷ turnout 0 0 6 ∷ alone ∷ alone ∷ []) ≡ 2
  pub after-it :
      first_bad (alone ∷ alone ∷ alone ∷ turnout 0 0 6 ∷ alone ∷ bad_zone 255 ∷ []) ≡ 3
  -- a later carrier with an impossible zone or drive
  pub later-zone : first_bad (alone ∷ turnout 0 0 6 ∷ alone ∷ bad_zone 6 ∷ []) ≡ 1
  pub later-drive : first_bad (alone ∷ turnout 0 0 6 ∷ alone ∷ bad_drive 6 ∷ []) ≡ 1
  -- two wrong groups
  pub two-wrong : first_bad (electric 2 8 ++ electric 1 3 ++ electric 1 2) ≡ 2
