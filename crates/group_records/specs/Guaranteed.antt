-- What a good turnout record of version 2 guarantees: SHEET-2 and SHEET-3 (docs/RULES.md), sentence by
-- sentence. The claim stands at the end; proofs/Guaranteed.antt proves it.
use Rattle.std.specs.Prelude.{true, ◌⊎◌, ◌≡◌, ℕ, ◌≤◌, ◌<◌}
use Rattle.sets.specs.Sets.{has, count}
use Rattle.station.specs.declared.Station.{Station}
use Rattle.station.specs.Station.{turnout_at, zone_of, drive_of}
use Rattle.groups.specs.Groups.{tied}
use Rattle.layout.specs.Counts.{GoodCounts}
use Rattle.group_records.specs.GroupRecords.{good_turnout}

-- SHEET-3: "A group has 2 to 8 turnouts of one zone and one drive": that of turnout n
pub record Group (st : Station) (n : ℕ) : Type 0 where
  pub number : (turnout_at st n).group < 32
  pub some : 2 ≤ count (tied st n)
  pub most : count (tied st n) ≤ 8
  pub one-zone : (k : ℕ) → has (tied st n) k ≡ true → zone_of st k ≡ zone_of st n
  pub one-drive : (k : ℕ) → has (tied st n) k ≡ true → drive_of st k ≡ drive_of st n

-- what SHEET-2 and SHEET-3 (docs/RULES.md) ask of turnout n
pub record GoodTurnout (st : Station) (n : ℕ) : Type 0 where
  -- "zone (below Z)"
  pub zone : zone_of st n < st.zones
  -- "drive (0 electric, 1 hand with key lock)"
  pub drive : drive_of st n ≤ 1
  -- "a group number, 0 to 31 or 255 for alone"
  pub group : ((turnout_at st n).group ≡ 255) ⊎ Group st n

-- The claim, of every station whose counts are in range.
abbrev pub EachGuaranteed : Type 0
EachGuaranteed =
    (st : Station) → GoodCounts st → (n : ℕ) → good_turnout st n ≡ true → GoodTurnout st n
