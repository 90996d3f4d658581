-- What good turnout records of version 1 guarantee, and the groups that their crossovers become: SHEET-2,
-- SHEET-13 and SHEET-14 (docs/RULES.md), sentence by sentence. The claims stand at the end;
-- proofs/Partnered.antt and proofs/Renumbered.antt prove them.
use Rattle.std.specs.Prelude.{true, cond, ◌≢◌, ◌⊎◌, ◌≡◌, ℕ, ◌≤◌, ◌<◌, ltb}
use Rattle.sets.specs.Sets.{single, union}
use Rattle.station.specs.declared.Station.{Station}
use Rattle.station.specs.Station.{turnout_count, zone_of, drive_of}
use Rattle.groups.specs.Groups.{tied}
use Rattle.layout.specs.Counts.{GoodCounts}
use Rattle.group_records.specs.GroupRecords as groups
use Rattle.partner_records.specs.PartnerRecords.{partner_of, good_turnout, renumbered}

-- SHEET-13: turnout n is an end of a crossover
pub record Crossover (st : Station) (n : ℕ) : Type 0 where
  -- "A partner is below P, ..
  pub below : partner_of st n < st.turnouts
  -- .. not itself, ..
  pub other : partner_of st n ≢ n
  -- .. names it back, ..
  pub back : partner_of st (partner_of st n) ≡ n
  -- .. and has the same zone ..
  pub same-zone : zone_of st (partner_of st n) ≡ zone_of st n
  -- .. and drive."
  pub same-drive : drive_of st (partner_of st n) ≡ drive_of st n

-- what SHEET-2 and SHEET-13 ask of turnout n
pub record Partnered (st : Station) (n : ℕ) : Type 0 where
  -- "zone (below Z)"
  pub zone : zone_of st n < st.zones
  -- "drive (0 electric, 1 hand with key lock)"
  pub drive : drive_of st n ≤ 1
  -- "partner (the other end of a crossover, or 255 for none)"
  pub partner : (partner_of st n ≡ 255) ⊎ Crossover st n

-- turnout n and its partner
abbrev pub pair_of : Station → ℕ → ℕ
pair_of st n =
    union (single n) (cond (ltb (partner_of st n) (turnout_count st)) (single (partner_of st n)) 0)

-- what the groups of a station of version 1 are, its turnouts being good
pub record Renumbered (st : Station) : Type 0 where
  -- SHEET-14: "The crossovers of version 1 become groups": what is tied to a turnout is itself and its
  -- partner
  pub same-tied : (n : ℕ) → n < st.turnouts → tied (renumbered st) n ≡ pair_of st n
  -- and each record is good by the rules of version 2
  pub good : (n : ℕ) → n < st.turnouts → groups.good_turnout (renumbered st) n ≡ true

-- The claims, of every station whose counts are in range: of each good turnout, and of a station whose
-- turnouts are all good.
abbrev pub EachPartnered : Type 0
EachPartnered =
    (st : Station) → GoodCounts st → (n : ℕ) → good_turnout st n ≡ true → Partnered st n

abbrev pub EachRenumbered : Type 0
EachRenumbered =
    (st : Station) → GoodCounts st → ((n : ℕ) → n < st.turnouts → Partnered st n)
    → Renumbered st
