-- Station K: its cases K-2 to K-10 (docs/RULES.md), and those worked for the requests, as one
-- statement over the written rules (ACCEPT-4).
use Rattle.std.specs.Prelude.{true, false, [], ◌∷◌, ◌++◌, map, ◌≡◌}
use Rattle.message.specs.Record.{encoded}
use Rattle.sheet.specs.Sheet.{read_sheet}
use Rattle.signals.specs.Answer as Verdicts
use Rattle.desk.specs.Desk.{fresh_desk}
use Rattle.desk.specs.Questions.{movement_refused, movement_answered}
use Rattle.journal.specs.Journal.{counted, records}
use Rattle.report.specs.Text.{text_of}
use Rattle.zone.specs.declared.Regime.TheVariants.{Held, Clear}
use Rattle.zone.specs.Movement.{is_clear}
use Rattle.history.specs.History.{of_its_route, allows_clear}
use Rattle.history.specs.Lists.{message, answers, desk_after, zone_messages}
use Rattle.history.specs.Demand3.{ours}
use Rattle.history.specs.CaseMessages.{plain, naming, clearing, declaring, keying, reply}
use Rattle.history.specs.CaseMessages.{movement_told}
use Rattle.history.specs.Cases.{asked, accepted_k, up_to3, up_to6, up_to8, up_to10, keyed2}
use Rattle.worked_cases.specs.OtherDesks.{takes_for_both, keeps_no_keys, keys_outlive}
use Rattle.sheet.specs.Cases.{sheet_k}
use Rattle.worked_cases.specs.StationK.{station_k, messages_k, records_k, journal_k}
use Rattle.worked_cases.specs.StationK.{replayed_k, lines_k, answers_k, open_k, heard_k}
use Rattle.worked_cases.specs.StationK.{verbal, verbal_movement, recorder_out, RestoredAfter}
use Rattle.worked_cases.specs.StationK.{crossover, cleared0, cleared2, one_end_cleared}
use Rattle.worked_cases.specs.StationK.{one_end_heard, GetsFourth, scene1, keyed_then}
use Rattle.worked_cases.specs.StationK.{next_asked, next_train, next_heard, keyed_heard}
use Rattle.worked_cases.specs.StationK.{GetsAfter, movement_after, open_after}

pub record Cases : Type 0 where
  -- K-1: the sheet is accepted
  pub sheet : (read_sheet sheet_k).code ≡ 0
  -- K-2: the answers to the records
  pub output :
      answers ours station_k fresh_desk records_k
      ≡ reply 0 0
      ∷ reply 0 0
      ∷ reply 0 0
      ∷ reply 0 0
      ∷ reply 22 0
      ∷ reply 0 0
      ∷ reply 22 0
      ∷ reply 0 0
      ∷ reply 19 0
      ∷ reply 0 0
      ∷ reply 0 2
      ∷ []
  -- K-2: the same as the program prints it, from the bytes of the two files
  pub journal : records journal_k ≡ map encoded messages_k
  pub text : text_of replayed_k.code replayed_k.bytes (counted journal_k) ≡ lines_k
  -- K-3: "After record 3 turnout 0 is open to work; after 6 not, though 1 is; after 10 still not."
  pub open-3 : open_k 3 0 ≡ true
  pub shut-6 : open_k 6 0 ≡ false
  pub other-6 : open_k 6 1 ≡ true
  pub shut-10 : open_k 10 0 ≡ false
  -- K-4: "Fresh: asking {0}: 17; {0,1}: 0; a set with turnout 3: 17."
  pub one_end : answers_k (naming 1 0 7 1 0 1 ∷ []) ≡ reply 17 0 ∷ []
  pub both_ends : answers_k (naming 1 0 7 3 0 1 ∷ []) ≡ reply 0 0 ∷ []
  pub turnout-3 : answers_k (naming 1 0 7 8 0 1 ∷ []) ≡ reply 17 0 ∷ []
  pub turnout-3-too : answers_k (naming 1 0 7 11 0 1 ∷ []) ≡ reply 17 0 ∷ []
  -- K-5: "{2} agreed under verbal, b {2}: 22; a {2}: 0."
  pub verbal-b :
      answers_k (verbal ++ (naming 4 20 9 0 4 0 ∷ []))
      ≡ reply 0 0 ∷ reply 0 0 ∷ reply 22 0 ∷ []
  pub verbal-a :
      answers_k (verbal ++ (naming 4 20 9 4 0 0 ∷ []))
      ≡ reply 0 0 ∷ reply 0 0 ∷ reply 0 0 ∷ []
  -- K-6: "There, movement asked: declaration 3: 20; 8 with clamp 1: 20; 8 with 0: 0."
  pub declaration-3 :
      answers_k (verbal_movement ++ (clearing 30 600 2 3 0 1 ∷ []))
      ≡ reply 0 0 ∷ reply 0 0 ∷ reply 0 0 ∷ reply 20 0 ∷ []
  pub declaration-8-clamp :
      answers_k (verbal_movement ++ (clearing 30 600 2 8 1 1 ∷ []))
      ≡ reply 0 0 ∷ reply 0 0 ∷ reply 0 0 ∷ reply 20 0 ∷ []
  pub declaration-8 :
      answers_k (verbal_movement ++ (clearing 30 600 2 8 0 1 ∷ []))
      ≡ reply 0 0 ∷ reply 0 0 ∷ reply 0 0 ∷ reply 0 0 ∷ []
  -- K-7: "Recorder out: voice 21, written 0."
  pub voice :
      answers_k (recorder_out ++ (clearing 30 600 2 8 0 1 ∷ []))
      ≡ reply 0 0 ∷ reply 0 0 ∷ reply 0 0 ∷ reply 0 0 ∷ reply 21 0 ∷ []
  pub written :
      answers_k (recorder_out ++ (clearing 30 600 2 8 0 2 ∷ []))
      ≡ reply 0 0 ∷ reply 0 0 ∷ reply 0 0 ∷ reply 0 0 ∷ reply 0 0 ∷ []
  -- K-8: "Time equal to the last: 0; one less: 14."
  pub time-equal : answers_k (naming 1 5 7 3 0 1 ∷ plain 2 5 7 ∷ []) ≡ reply 0 0 ∷ reply 0 0 ∷ []
  pub time-less : answers_k (naming 1 5 7 3 0 1 ∷ plain 2 4 7 ∷ []) ≡ reply 0 0 ∷ reply 14 0 ∷ []
  -- K-9: "60 s: 1"; M-103: "30 seconds give 0, 90 give 2, 150 give 2 .. and the case of 59 seconds
  -- becomes 1."
  pub seconds-30 : RestoredAfter 30 0
  pub seconds-59 : RestoredAfter 59 1
  pub seconds-60 : RestoredAfter 60 1
  pub seconds-90 : RestoredAfter 90 2
  pub seconds-150 : RestoredAfter 150 2
  -- K-10: "Line 1, by day, not held, no SSC, no lights: signal 1 gives 3, signal 2 gives 2; line 2
  -- signal 1 gives 5."
  pub signal-1 : Verdicts.judged 1 1 2 ≡ record { code = 0; verdict = 3 }
  pub signal-2 : Verdicts.judged 1 2 2 ≡ record { code = 0; verdict = 2 }
  pub line-2 : Verdicts.judged 2 1 2 ≡ record { code = 0; verdict = 5 }
  -- FIT-4: "with declaration 1 or 2 on a turnout of a group, of whatever size, d5 is 1; in every other
  -- clearance d5 is 0 .. 0 or 1 where the other is due is 20; above 1 is 13". Turnout 0 is one end of a
  -- crossover, a group of two, turnout 2 is alone
  pub covers_one : GetsFourth crossover (cleared0 1 0) 20
  pub covers-both : GetsFourth crossover (cleared0 1 1) 0
  pub covers-one-2 : GetsFourth crossover (cleared0 2 0) 20
  pub covers-both-2 : GetsFourth crossover (cleared0 2 1) 0
  pub covers-both-3 : GetsFourth crossover (cleared0 3 1) 20
  pub alone-covers-both : GetsFourth verbal_movement (cleared2 1 1) 20
  pub alone-covers-itself : GetsFourth verbal_movement (cleared2 1 0) 0
  pub d5-2 : GetsFourth crossover (cleared0 1 2) 13
  pub alone-d5-2 : GetsFourth verbal_movement (cleared2 1 2) 13
  -- KIND-13.3, KIND-13.4, in the first scene: turnout 0 is not worked; a Tcl on turnout 2, which is
  -- flank, is accepted
  pub key-not-worked : GetsAfter scene1 (keying 120 512 0 2) 17
  pub key-Tcl : GetsAfter scene1 (keying 120 512 2 1) 0
  pub key-Es : GetsAfter scene1 (keying 120 512 2 2) 0
  -- KIND-13.5: turnout 2 lacked, then none lacks; clear may be ordered, and turnout 2 is still open
  -- to work
  pub lacking-before : movement_after scene1 512 ≡ movement_told Held 2 1
  pub lacking-after : movement_after keyed2 512 ≡ movement_told Clear 255 0
  pub clear-ordered : GetsAfter keyed2 (naming 7 125 512 0 0 1) 0
  pub open-with-key : open_after keyed2 2 ≡ true
  -- KIND-6.2, KIND-13.2: "A second key or a clearance on it gets 16"
  pub second-Tcl : GetsAfter keyed2 (keying 125 512 2 1) 16
  pub second-Es : GetsAfter keyed2 (keying 125 512 2 2) 16
  pub clearance-over-key : GetsAfter keyed2 (declaring 125 512 2 1 0) 16
  -- KIND-8.3, KIND-9.3: "Keys lapse when the train passes or the movement is cancelled": the next
  -- train lacks turnout 2
  pub lapsed-passed : movement_after next_train 600 ≡ movement_told Held 2 1
  pub lapsed-cancelled :
      movement_after (keyed_then (plain 9 130 512 ∷ next_asked ∷ [])) 600
      ≡ movement_told Held 2 1
  -- KIND-13.4: in the second scene turnout 0 is run over
  pub key-over-Es : GetsFourth crossover (keying 120 512 0 2) 23
  pub key-over-Tcl : GetsFourth crossover (keying 120 512 0 1) 23
  -- the accepted messages after records 3, 6, 8, 10 and 11 are those that the history's words are
  -- tried on
  pub heard-3 : heard_k 3 ≡ up_to3
  pub heard-6 : heard_k 6 ≡ up_to6
  pub heard-8 : heard_k 8 ≡ up_to8
  pub heard-10 : heard_k 10 ≡ up_to10
  pub heard-11 : heard_k 11 ≡ accepted_k
  -- and so are those with a key, all accepted, also with the next train
  pub heard-keyed : zone_messages ours station_k keyed_heard 0 ≡ keyed2
  pub heard-next : zone_messages ours station_k next_heard 0 ≡ next_train
  -- on the fresh desk no movement stands, and one that is asked for is accepted
  pub fresh-movement : movement_answered station_k fresh_desk 0 512 ≡ movement_refused 15
  pub only-movement : zone_messages ours station_k (message (asked 0) ∷ []) 0 ≡ asked 0 ∷ []
  -- turnout 0 is of the route, and a clearance of declaration 1 that covers one end does not allow
  -- clear
  pub of-route-0 : of_its_route station_k (asked 0) 0 ≡ true
  pub not-allowed : allows_clear station_k (asked 0) (cleared0 1 0 ∷ []) 0 ≡ false
  -- a desk that takes it for one that covers both accepts it and answers clear
  pub taken-for-both : zone_messages takes_for_both station_k one_end_heard 0 ≡ one_end_cleared
  pub clear-for-both :
      (takes_for_both.movement station_k (desk_after takes_for_both station_k one_end_heard) 0 512).regime
      ≡ Clear
  -- turnout 2 is of the route; a desk that takes a key and keeps none accepts it and answers held
  pub of-route-2 : of_its_route station_k (asked 0) 2 ≡ true
  pub taken-unkept : zone_messages keeps_no_keys station_k keyed_heard 0 ≡ keyed2
  pub held-unkept :
      is_clear (keeps_no_keys.movement station_k (desk_after keeps_no_keys station_k keyed_heard) 0 512
      ).regime
      ≡ false
  -- a desk whose keys outlive the train accepts the next train and answers clear
  pub taken-outlived : zone_messages keys_outlive station_k next_heard 0 ≡ next_train
  pub clear-outlived :
      (keys_outlive.movement station_k (desk_after keys_outlive station_k next_heard) 0 600).regime
      ≡ Clear
