-- Cases of APART-1 and APART-2 (docs/RULES.md), by hand, on the station of two zones: which inputs
-- are messages of a zone, what two lists that are alike in zone 0 give it, and what the desks that
-- share something between zones give a zone.
use Rattle.std.specs.Prelude.{Bool, true, false, List, [], ◌∷◌, ◌++◌, ◌≡◌, ℕ, take, drop}
use Rattle.sets.specs.Sets.{has}
use Rattle.station.specs.Station.{zone_turnouts}
use Rattle.sheet.specs.Sheet.{read_sheet}
use Rattle.zone.specs.declared.Regime.TheVariants.{Held}
use Rattle.desk.specs.Desk.{fresh_desk}
use Rattle.desk.specs.Questions.{movement_refused, movement_answered, work_answered}
use Rattle.history.specs.Lists.{Input, message, Reply, Model, desk_after, zone_messages}
use Rattle.history.specs.Demand3.{ours}
use Rattle.history.specs.Separation.{belonging, Alike, zone_answers}
use Rattle.history.specs.SharingDesks.{common_clock, common_recorder, common_agreement}
use Rattle.history.specs.SharingDesks.{movement_of_zone0, work_of_zone0}
use Rattle.history.specs.CaseMessages.{reply, movement_told}
use Rattle.history.specs.TwoZones.{sheet_two, station_two, as_record, conversation, quiet}
use Rattle.history.specs.TwoZones.{unrefused, others, short, no_kind, zone2, bad_field, busy}
use Rattle.history.specs.TwoZones.{to_clearance, alone, after_later, after_out, asked0}
use Rattle.history.specs.TwoZones.{with_agreement, open0}

-- the answers to zone 0's conversation: up to the clearance, which gets a code; and to its end, with
-- the minutes since the agreement
abbrev pub clearance_gets : ℕ → List Reply
clearance_gets code =
    reply 0 0 ∷ reply 0 0 ∷ reply 18 0 ∷ reply 0 0 ∷ reply code 0 ∷ []

abbrev pub restored_in : ℕ → List Reply
restored_in minutes = clearance_gets 0 ++ (reply 0 0 ∷ reply 0 0 ∷ reply 0 minutes ∷ [])

-- the answers that zone 0 gets in a list
abbrev pub in_zone0 : Model → List Input → List Reply
in_zone0 D inputs = zone_answers D station_two 0 D.fresh inputs

-- the code of the movement question with zone 1 and train 512, after a list
abbrev pub movement1 : Model → List Input → ℕ
movement1 D inputs = (D.movement station_two (desk_after D station_two inputs) 1 512).code

-- whether turnout 1, which is in zone 1, is open to work after a list
abbrev pub work1 : Model → List Input → Bool
work1 D inputs = (D.work station_two (desk_after D station_two inputs) 1).yes

-- inputs refused with 10, 11, 13 and 12, as messages and as bytes
abbrev of_no_zone : List Input
of_no_zone =
    short ∷ message no_kind ∷ as_record no_kind ∷ message bad_field ∷ as_record bad_field
    ∷ message zone2 ∷ as_record zone2 ∷ []

pub record ZoneCases : Type 0 where
  pub sheet : (read_sheet sheet_two).code ≡ 0
  -- APART-1: "the messages of one zone and their order", refused ones too, heard as messages or as
  -- records
  pub messages-0 : belonging 2 0 quiet ≡ conversation
  pub records-0 : belonging 2 0 busy ≡ conversation
  pub messages-1 : belonging 2 1 quiet ≡ []
  pub records-1 : belonging 2 1 busy ≡ others
  pub accepted-0 : zone_messages ours station_two busy 0 ≡ take 2 conversation ++ drop 3 conversation
  -- APART-1: "Records refused with 10, 11, 12 or 13 belong to no zone", whatever their zone byte;
  -- 12 goes by the number of zones
  pub of-no-zone : belonging 2 0 of_no_zone ≡ []
  pub nor-of-zone-2 : belonging 2 2 of_no_zone ≡ []
  pub third-zone : belonging 3 2 of_no_zone ≡ zone2 ∷ zone2 ∷ []
  -- APART-2: alike are lists with the same messages; a refused one counts
  pub alike : Alike station_two 0 quiet busy
  pub refused-counts : Alike station_two 0 quiet unrefused → ⊥
  -- APART-2: "the same codes, minutes", and those of zone 1
  pub answers-quiet : in_zone0 ours quiet ≡ restored_in 2
  pub answers-busy : in_zone0 ours busy ≡ restored_in 2
  pub answers-1 :
      zone_answers ours station_two 1 fresh_desk busy
      ≡ reply 0 0 ∷ reply 0 0 ∷ reply 0 0 ∷ reply 0 0 ∷ reply 0 0 ∷ reply 21 0 ∷ []
  -- APART-2: "and question answers": train 512 has gone by in zone 0 and stands in zone 1, where
  -- turnout 1 is open to work
  pub movement-0 :
      movement_answered station_two (desk_after ours station_two busy) 0 512 ≡ movement_refused 15
  pub movement-1 :
      movement_answered station_two (desk_after ours station_two busy) 1 512 ≡ movement_told Held 1 1
  pub work-1 : (work_answered station_two (desk_after ours station_two busy) 1).yes ≡ true
  pub fresh-1 : (work_answered station_two (desk_after ours station_two quiet) 1).yes ≡ false
  -- what the desks do that share something, on lists that are alike
  pub clock-alike : Alike station_two 0 after_later alone
  pub clock-alone : in_zone0 common_clock alone ≡ reply 0 0 ∷ []
  pub clock-later : in_zone0 common_clock after_later ≡ reply 14 0 ∷ []
  pub recorder-alike : Alike station_two 0 after_out to_clearance
  pub recorder-alone : in_zone0 common_recorder to_clearance ≡ clearance_gets 0
  pub recorder-out : in_zone0 common_recorder after_out ≡ clearance_gets 21
  pub agreement-alike : Alike station_two 0 with_agreement quiet
  pub agreement-alone : in_zone0 common_agreement quiet ≡ restored_in 2
  pub agreement-beside : in_zone0 common_agreement with_agreement ≡ restored_in 0
  pub movement-alike : Alike station_two 1 asked0 []
  pub movement-alone : movement1 movement_of_zone0 [] ≡ 15
  pub movement-beside : movement1 movement_of_zone0 asked0 ≡ 0
  pub work-alike : Alike station_two 1 open0 []
  pub of-zone-1 : has (zone_turnouts station_two 1) 1 ≡ true
  pub work-alone : work1 work_of_zone0 [] ≡ false
  pub work-beside : work1 work_of_zone0 open0 ≡ true
