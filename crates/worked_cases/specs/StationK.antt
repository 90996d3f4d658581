-- Station K, K-1 and K-2 (docs/RULES.md): its station, its records, and the lists of messages that
-- its cases are worked on.
use Rattle.std.specs.Prelude.{Bool, ◌≡◌, ℕ, ◌+◌, take, replicate}
use mathlib.Core.List.{List, [], ◌∷◌, ◌++◌, map, foldr}
use Rattle.message.specs.declared.Message.{Message}
use Rattle.message.specs.Record.{encoded, WriteAnswer}
use Rattle.station.specs.declared.Station.{Station}
use Rattle.sheet.specs.Cases.{sheet_k}
use Rattle.sheet.specs.Sheet.{read_sheet}
use Rattle.desk.specs.Desk.{fresh_desk}
use Rattle.desk.specs.Questions.{MovementAnswer, movement_answered, work_answered}
use Rattle.history.specs.Lists.{Input, message, bytes, Reply, after, answers, desk_after, zone_messages}
use Rattle.history.specs.Demand3.{ours}
use Rattle.history.specs.CaseMessages.{plain, naming, clearing, declaring, reply}
use Rattle.history.specs.Cases.{asked, keyed2}
use Rattle.replay.specs.Replay.{replayed}

-- K-1: the station of its sheet, of version 1
abbrev pub station_k : Station
station_k = (read_sheet sheet_k).station

-- K-2: "Records, all zone 0: 1 (t 0, id 7, M.45, {0,1}); 2 (t 90); 4 (t 100, a {0,1}); 5 (t 110,
-- train 512, route 0); 7 clear (t 111); 6 (t 115, turnout 0, declaration 3, normal, 0, voice); 7
-- clear (t 116); 7 danger (t 117); 11 (t 118); 8 (t 130); 11 (t 209)."
abbrev pub messages_k : List Message
messages_k =
    naming 1 0 7 3 0 1
    ∷ plain 2 90 7
    ∷ naming 4 100 7 3 0 0
    ∷ naming 5 110 512 0 0 0
    ∷ naming 7 111 512 0 0 1
    ∷ clearing 115 512 0 3 0 1
    ∷ naming 7 116 512 0 0 1
    ∷ naming 7 117 512 0 0 2
    ∷ plain 11 118 7
    ∷ plain 8 130 512
    ∷ plain 11 209 7
    ∷ []

-- heard as records
abbrev pub records_k : List Input
records_k = map (λ (m : Message). bytes (encoded m)) messages_k

-- the journal that holds them; JOURNAL-1: "WKJ, version (16 bits, 1), count (32 bits ..), seven
-- zeros; then the records"
abbrev pub journal_k : List ℕ
journal_k =
    87 ∷ 75 ∷ 74 ∷ 0 ∷ 1 ∷ 0 ∷ 0 ∷ 0 ∷ 11 ∷ 0 ∷ 0 ∷ 0 ∷ 0 ∷ 0 ∷ 0 ∷ 0
    ∷ foldr (λ (m : Message) (rest : List ℕ). encoded m ++ rest) [] messages_k

-- both replayed, with room for eleven answers
abbrev pub replayed_k : WriteAnswer
replayed_k = replayed sheet_k journal_k (replicate 55 0)

-- K-2, "Output, whole", in ASCII: the numbers of a line, a space (32) between them, a line end
-- (10); the last line by M-103: "In station K the last line becomes '11 0 2'"
abbrev pub lines_k : List ℕ
lines_k =
    49 ∷ 32 ∷ 48 ∷ 32 ∷ 48 ∷ 10
    ∷ 50 ∷ 32 ∷ 48 ∷ 32 ∷ 48 ∷ 10
    ∷ 51 ∷ 32 ∷ 48 ∷ 32 ∷ 48 ∷ 10
    ∷ 52 ∷ 32 ∷ 48 ∷ 32 ∷ 48 ∷ 10
    ∷ 53 ∷ 32 ∷ 50 ∷ 50 ∷ 32 ∷ 48 ∷ 10
    ∷ 54 ∷ 32 ∷ 48 ∷ 32 ∷ 48 ∷ 10
    ∷ 55 ∷ 32 ∷ 50 ∷ 50 ∷ 32 ∷ 48 ∷ 10
    ∷ 56 ∷ 32 ∷ 48 ∷ 32 ∷ 48 ∷ 10
    ∷ 57 ∷ 32 ∷ 49 ∷ 57 ∷ 32 ∷ 48 ∷ 10
    ∷ 49 ∷ 48 ∷ 32 ∷ 48 ∷ 32 ∷ 48 ∷ 10
    ∷ 49 ∷ 49 ∷ 32 ∷ 48 ∷ 32 ∷ 50 ∷ 10
    ∷ []

-- the answers to messages heard by the fresh desk of station K
abbrev pub answers_k : List Message → List Reply
answers_k ms = answers ours station_k fresh_desk (map message ms)

-- whether turnout t is open to work after the first n records
abbrev pub open_k : ℕ → ℕ → Bool
open_k n t = (work_answered station_k (after ours station_k fresh_desk (take n records_k)) t).yes

-- the accepted messages of zone 0 after the first n records
abbrev pub heard_k : ℕ → List Message
heard_k n = zone_messages ours station_k (take n records_k) 0

-- a request for {2} under verbal, agreed; and a movement over route 0
abbrev pub verbal : List Message
verbal = naming 1 0 9 4 0 2 ∷ plain 2 10 9 ∷ []

abbrev pub verbal_movement : List Message
verbal_movement = verbal ++ (naming 5 20 600 0 0 0 ∷ [])

abbrev pub recorder_out : List Message
recorder_out = verbal_movement ++ (naming 12 25 0 0 0 0 ∷ [])

-- K-9: all restored so many seconds after the agreement, and the minutes of it
abbrev pub RestoredAfter : ℕ → ℕ → Type 0
RestoredAfter seconds minutes =
    answers_k (verbal ++ (plain 11 (10 + seconds) 9 ∷ []))
    ≡ reply 0 0 ∷ reply 0 0 ∷ reply 0 minutes ∷ []

-- {0,1} agreed under M.45, and a movement over route 0
abbrev pub crossover : List Message
crossover = naming 1 0 7 3 0 1 ∷ plain 2 90 7 ∷ asked 0 ∷ []

-- there a clearance of turnout 0, given the declaration and 1 where it covers the whole group
abbrev pub cleared0 : ℕ → ℕ → Message
cleared0 declaration both = declaring 115 512 0 declaration both

-- and under verbal one of turnout 2
abbrev pub cleared2 : ℕ → ℕ → Message
cleared2 declaration both = declaring 30 600 2 declaration both

-- turnout 0 cleared by a declaration 1 that covers one end
abbrev pub one_end_cleared : List Message
one_end_cleared = crossover ++ (cleared0 1 0 ∷ [])

abbrev pub one_end_heard : List Input
one_end_heard = map message one_end_cleared

-- a message after three that were accepted, and the number it gets
abbrev pub GetsFourth : List Message → Message → ℕ → Type 0
GetsFourth ms m code =
    answers_k (ms ++ (m ∷ [])) ≡ reply 0 0 ∷ reply 0 0 ∷ reply 0 0 ∷ reply code 0 ∷ []

-- M-105 (KIND-13), the first scene: {2} agreed and its detection off, a movement asked for
abbrev pub scene1 : List Message
scene1 = take 4 keyed2

-- there a key on turnout 2, and what is heard after it
abbrev pub keyed_then : List Message → List Message
keyed_then ms = keyed2 ++ ms

-- clear is ordered, the train passes, and the next train is asked for
abbrev pub passed_then : List Message
passed_then = naming 7 125 512 0 0 1 ∷ plain 8 130 512 ∷ []

abbrev pub next_asked : Message
next_asked = naming 5 140 600 0 0 0

abbrev pub next_train : List Message
next_train = keyed_then (passed_then ++ (next_asked ∷ []))

abbrev pub next_heard : List Input
next_heard = map message next_train

abbrev pub keyed_heard : List Input
keyed_heard = map message keyed2

-- the number that the last of some messages gets
abbrev pub last_code : List Reply → ℕ
last_code [] = 0
last_code (r ∷ []) = r.code
last_code (r ∷ q ∷ rest) = last_code (q ∷ rest)

abbrev pub GetsAfter : List Message → Message → ℕ → Type 0
GetsAfter ms m code = last_code (answers_k (ms ++ (m ∷ []))) ≡ code

-- the movement question after messages
abbrev pub movement_after : List Message → ℕ → MovementAnswer
movement_after ms train =
    movement_answered station_k (desk_after ours station_k (map message ms)) 0 train

-- whether turnout t is open to work after messages
abbrev pub open_after : List Message → ℕ → Bool
open_after ms t = (work_answered station_k (desk_after ours station_k (map message ms)) t).yes
