-- UNIT-5 (docs/RULES.md), APART-1 to APART-3 of the unit: "Two dispatchers share one unit and want
-- to know that neither's traffic touches the other's." The numbers that the unit's calls return are
-- made of these answers alone.
use Rattle.std.specs.Prelude.{List, ◌≡◌, ℕ}
use Rattle.sheet.specs.Sheet.{read_sheet}
use Rattle.history.specs.Lists.{Input}
use Rattle.history.specs.Separation.{Alike, SameForZone, SameAlone}
use Rattle.works_desk_unit.specs.OneByOne.{unit_of, Each, IsRecord}

-- APART-2: two lists of records, heard one by one, that are alike in the messages of a zone
abbrev pub UnitSeparation : Type 0
UnitSeparation =
    (sheet : List ℕ) → (read_sheet sheet).code ≡ 0 → (z : ℕ) (one other : List Input)
    → Each IsRecord one → Each IsRecord other → Alike (read_sheet sheet).station z one other
    → SameForZone (unit_of sheet) (read_sheet sheet).station z one other

-- APART-3: hearing only one zone's records gives that zone the same answers
abbrev pub UnitHeardAlone : Type 0
UnitHeardAlone =
    (sheet : List ℕ) → (read_sheet sheet).code ≡ 0 → (z : ℕ) (inputs : List Input)
    → Each IsRecord inputs → SameAlone (unit_of sheet) (read_sheet sheet).station z inputs
