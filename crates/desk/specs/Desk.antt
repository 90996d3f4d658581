-- The desk: its zones, hearing a message, hearing bytes as a record: HEAR-1 to HEAR-4, ZONE-1 and
-- ZONE-2 (docs/RULES.md). CALL-4 is the order of all checks: 10, 11, 13, 12, 14, then those of the
-- kind.
use Rattle.std.specs.Prelude.{Bool, cond, not, List, ℕ, eqb, ltb, get_or, set, replicate}
use Rattle.std.specs.Prelude.{Result, Ok, Err}
use Rattle.refusals.specs.declared.Refusal.{Refusal}
use Rattle.refusals.specs.Numbers.{number_of}
use Rattle.station.specs.declared.Station.{Station}
use Rattle.station.specs.Station.{zone_count}
use Rattle.message.specs.declared.Message.{Message}
use Rattle.message.specs.Fields.{field_number}
use Rattle.message.specs.Record.{read_record}
use Rattle.zone.specs.declared.Zone.{Zone}
use Rattle.zone.specs.Zone.{Answer, fresh_zone, no_zone, refused_in}
use Rattle.rules.specs.declared.Concerned.{Concerned}
use Rattle.rules.specs.Routes.{concerned}
use Rattle.rules.specs.Kinds.{heard, heard_on}
use Rattle.desk.specs.declared.Desk.{Desk}
use Rattle.desk.specs.declared.After.{After}

-- the answer to a message: its code, the minutes, and the desk after it
pub record Applied : Type 0 where
  pub code : ℕ
  pub minutes : ℕ
  pub desk : Desk

-- ZONE-2: "A fresh desk has no work and no movement in any zone, recorders working, times 0."
unfoldable pub fresh_desk : Desk
fresh_desk = record { zones = replicate 8 fresh_zone }

abbrev pub zone_at : Desk → ℕ → Zone
zone_at d n = get_or d.zones n no_zone

-- a refusal, CALL-3: "nothing altered"
abbrev pub refused_by : Desk → ℕ → Applied
refused_by d number = record { code = number; minutes = 0; desk = d }

-- the answer that the desk's result stands for: 0, the minutes and the desk after it, or a refusal
abbrev pub applied_of : Desk → Result After Refusal → Applied
applied_of d (Ok a) = record { code = 0; minutes = a.minutes; desk = a.desk }
applied_of d (Err e) = refused_by d (number_of e)

-- the desk with zone n as an answer leaves it
abbrev pub put_back : Desk → ℕ → Answer → Applied
put_back d n a = record {
  code = a.code;
  minutes = a.minutes;
  desk = record { zones = set d.zones n a.zone };
}

-- HEAR-2: 12, "zone not below Z"
abbrev pub no_such_zone : Station → Message → Bool
no_such_zone st m = not (ltb m.zone (zone_count st))

-- HEAR-2, a message that keeps the field rules: 12, then by its zone
unfoldable pub reached : Station → Desk → Message → Applied
reached st d m =
    cond (no_such_zone st m) (refused_by d 12) (put_back d m.zone (heard st (zone_at d m.zone) m))

-- HEAR-1: "A message that no record carries the desk refuses by 11 or 13, as its record would be"
unfoldable pub applied : Station → Desk → Message → Applied
applied st d m = cond (not (eqb (field_number m) 0)) (refused_by d (field_number m)) (reached st d m)

-- HEAR-1: "A record is first read into a message, or refused (10, 11, 13, in that order); only then
-- does the desk check 12, 14 and the rest."
unfoldable pub applied_record : Station → Desk → List ℕ → Applied
applied_record st d s =
    cond (eqb (read_record s).code 0)
    (reached st d (read_record s).message)
    (refused_by d (read_record s).code)

-- The same in one zone, for whoever keeps the zones himself, of a message that keeps the field
-- rules: the place of a message's zone in the desk, 0 where the station has none such, and the
-- answer of the zone in that place, the routes that bear on the message being given or the
-- station's. The law `reached-in-place` says that putting the zone back is hearing by the desk.
unfoldable pub zone_place : Station → Message → ℕ
zone_place st m = cond (no_such_zone st m) 0 m.zone

abbrev pub zone_hears_on : Station → Concerned → Zone → Message → Answer
zone_hears_on st routes z m = cond (no_such_zone st m) (refused_in z 12) (heard_on st routes z m)

unfoldable pub zone_hears : Station → Zone → Message → Answer
zone_hears st z m = zone_hears_on st (concerned st z m) z m
