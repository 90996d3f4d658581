-- A station of two zones, for the cases of APART-1 and APART-2 (docs/RULES.md): its sheet, and
-- lists that are alike in one zone.
use Rattle.std.specs.Prelude.{List, [], ◌∷◌, ◌++◌, map, ℕ, take, drop}
use Rattle.message.specs.declared.Message.{Message}
use Rattle.message.specs.Record.{encoded}
use Rattle.station.specs.declared.Station.{Station}
use Rattle.sheet.specs.Sheet.{read_sheet}
use Rattle.history.specs.Lists.{Input, message, bytes}
use Rattle.history.specs.CaseMessages.{plain, naming, clearing}

-- P = 2, R = 2, Z = 2: turnout 0 electric in zone 0, turnout 1 by hand in zone 1, no crossover;
-- route 0 of zone 0 runs over {0}, route 1 of zone 1 over {1}: 80 bytes
abbrev pub sheet_two : List ℕ
sheet_two =
    83 ∷ 80 ∷ 84 ∷ 0 ∷ 1 ∷ 2 ∷ 2 ∷ 2
    ∷ 0 ∷ 255 ∷ 0
    ∷ 1 ∷ 255 ∷ 1
    ∷ 0
    ∷ 0 ∷ 0 ∷ 0 ∷ 0 ∷ 0 ∷ 0 ∷ 0 ∷ 1
    ∷ 0 ∷ 0 ∷ 0 ∷ 0 ∷ 0 ∷ 0 ∷ 0 ∷ 0
    ∷ 0 ∷ 0 ∷ 0 ∷ 0 ∷ 0 ∷ 0 ∷ 0 ∷ 0
    ∷ 0 ∷ 0 ∷ 0 ∷ 0 ∷ 0 ∷ 0 ∷ 0 ∷ 0
    ∷ 1
    ∷ 0 ∷ 0 ∷ 0 ∷ 0 ∷ 0 ∷ 0 ∷ 0 ∷ 2
    ∷ 0 ∷ 0 ∷ 0 ∷ 0 ∷ 0 ∷ 0 ∷ 0 ∷ 0
    ∷ 0 ∷ 0 ∷ 0 ∷ 0 ∷ 0 ∷ 0 ∷ 0 ∷ 0
    ∷ 0 ∷ 0 ∷ 0 ∷ 0 ∷ 0 ∷ 0 ∷ 0 ∷ 0
    ∷ []

abbrev pub station_two : Station
station_two = (read_sheet sheet_two).station

-- a message, in zone z
abbrev pub in_zone : ℕ → Message → Message
in_zone z m = record {
  kind = m.kind;
  zone = z;
  time = m.time;
  id = m.id;
  a = m.a;
  b = m.b;
  d0 = m.d0;
  d1 = m.d1;
  d2 = m.d2;
  d3 = m.d3;
  d4 = m.d4;
  d5 = m.d5;
}

-- heard as a record
abbrev pub as_record : Message → Input
as_record m = bytes (encoded m)

-- zone 0's conversation: {0} asked under M.45, agreed, agreed again (18), a movement of train 512
-- over route 0, a clearance by voice, ordered clear, passed, and all restored 90 seconds after the
-- agreement
abbrev pub conversation : List Message
conversation =
    naming 1 10 7 1 0 1
    ∷ plain 2 20 7
    ∷ plain 2 30 7
    ∷ naming 5 40 512 0 0 0
    ∷ clearing 50 512 0 1 0 1
    ∷ naming 7 60 512 0 0 1
    ∷ plain 8 70 512
    ∷ plain 11 110 7
    ∷ []

-- alone; and without the message that is refused
abbrev pub quiet : List Input
quiet = map message conversation

abbrev pub unrefused : List Input
unrefused =
    message (naming 1 10 7 1 0 1)
    ∷ message (plain 2 20 7)
    ∷ map message (drop 3 conversation)

-- zone 1's messages, an hour later, under the same form and train: {1} asked, agreed and open, its
-- recorder out, a movement over route 1, a clearance by voice (21)
abbrev pub others : List Message
others =
    in_zone 1 (naming 1 3600 7 2 0 1)
    ∷ in_zone 1 (plain 2 3601 7)
    ∷ in_zone 1 (naming 4 3602 7 2 0 0)
    ∷ in_zone 1 (naming 12 3603 0 0 0 0)
    ∷ in_zone 1 (naming 5 3604 512 0 0 1)
    ∷ in_zone 1 (clearing 3605 512 1 1 0 1)
    ∷ []

-- refused with 10, 11, 12 and 13: a byte short, no kind, no zone of two, a detail that kind 2 has not
abbrev pub short : Input
short = bytes (take 31 (encoded (plain 2 20 7)))

abbrev pub no_kind : Message
no_kind = plain 14 20 7

abbrev pub zone2 : Message
zone2 = in_zone 2 (naming 12 20 0 0 0 0)

abbrev pub bad_field : Message
bad_field = naming 2 20 7 0 0 1

-- zone 1's messages, then the conversation as records, with inputs of no zone before, within and
-- after it
abbrev pub busy : List Input
busy =
    map message others
    ++ (short ∷ message no_kind ∷ map as_record (take 4 conversation))
    ++ (as_record zone2 ∷ message bad_field ∷ map as_record (drop 4 conversation))
    ++ (message zone2 ∷ as_record no_kind ∷ as_record bad_field ∷ [])

-- up to the clearance
abbrev pub to_clearance : List Input
to_clearance = map message (take 5 conversation)

-- a recorder message of zone 0, alone and after one of zone 1 that is later
abbrev pub recorder_at : ℕ → Message
recorder_at time = naming 12 time 0 0 0 1

abbrev pub alone : List Input
alone = message (recorder_at 50) ∷ []

abbrev pub after_later : List Input
after_later = message (in_zone 1 (recorder_at 100)) ∷ alone

-- the conversation up to the clearance after zone 1's recorder went out
abbrev pub after_out : List Input
after_out = message (in_zone 1 (naming 12 0 0 0 0 0)) ∷ to_clearance

-- the conversation with zone 1's agreement at 80, between zone 0's at 20 and the restoration
abbrev pub with_agreement : List Input
with_agreement =
    map message (take 7 conversation)
    ++ (message (in_zone 1 (naming 1 0 7 2 0 1)) ∷ message (in_zone 1 (plain 2 80 7))
    ∷ map message (drop 7 conversation))

-- a movement in zone 0; {0} open to work there
abbrev pub asked0 : List Input
asked0 = message (naming 5 40 512 0 0 0) ∷ []

abbrev pub open0 : List Input
open0 = map message (naming 1 10 7 1 0 1 ∷ plain 2 20 7 ∷ naming 4 30 7 1 0 0 ∷ [])
