-- Desks that ACCEPT-3 (docs/RULES.md) turns down: "one always held; one that keeps no state", the
-- second as one whose work answer does not depend on what it heard, and as one that stays fresh.
-- And those that are turned down since the requests: M-101 (FIT-4), one that takes a clearance for
-- one end of a crossover as one for both; M-105 (KIND-13.5, KIND-8.3), one that accepts a key and still lacks the
-- turnout, and one whose keys outlive the train.
use Rattle.std.specs.Prelude.{cond, ◌&&◌, ℕ, eqb, set, None, Some}
use Rattle.sets.specs.Sets.{union}
use Rattle.message.specs.declared.Message.{Message}
use Rattle.station.specs.declared.Station.{Station}
use Rattle.zone.specs.Movement.{Movement, key_set}
use Rattle.zone.specs.declared.Zone.{Zone}
use Rattle.desk.specs.declared.Desk.{Desk}
use Rattle.desk.specs.Questions.{MovementAnswer, WorkAnswer, movement_answered, work_answered}
use Rattle.desk.specs.Desk.{fresh_desk, zone_at}
use Rattle.history.specs.Lists.{Input, message, bytes, Heard, Model}
use Rattle.history.specs.Demand3.{hears, on_desks}

-- a desk that hears as ours does and answers the movement question by itself
abbrev pub answering_movements : (Station → Desk → ℕ → ℕ → MovementAnswer) → Model
answering_movements movement = on_desks hears movement work_answered

-- a desk that hears as ours does and answers the work question without looking at what it heard
abbrev pub keeping_nothing : (Station → ℕ → WorkAnswer) → Model
keeping_nothing answer = on_desks hears movement_answered (λ st d t. answer st t)

-- a desk that hears each message by the fresh desk, and stays fresh
abbrev pub forgets : Station → Desk → Input → Heard Desk
forgets st d i = record { reply = (hears st d i).reply; state = fresh_desk }

abbrev pub stays_fresh : Model
stays_fresh = on_desks forgets movement_answered work_answered

-- against FIT-4: a clearance of declaration 1 as one that covers both ends
abbrev pub for_both : Message → Message
for_both m = record {
  kind = m.kind;
  zone = m.zone;
  time = m.time;
  id = m.id;
  a = m.a;
  b = m.b;
  d0 = m.d0;
  d1 = m.d1;
  d2 = m.d2;
  d3 = m.d3;
  d4 = m.d4;
  d5 = cond (eqb m.kind 6 && eqb m.d1 1) 1 m.d5;
}

-- a desk that hears every message so; a record it hears as it is
abbrev pub hears_for_both : Station → Desk → Input → Heard Desk
hears_for_both st d (message m) = hears st d (message (for_both m))
hears_for_both st d (bytes s) = hears st d (bytes s)

abbrev pub takes_for_both : Model
takes_for_both = on_desks hears_for_both movement_answered work_answered

-- against KIND-13.5: a desk that accepts keys and keeps none; a record it hears as it is
abbrev pub hears_no_keys : Station → Desk → Input → Heard Desk
hears_no_keys st d (message m) = record {
  reply = (hears st d (message m)).reply;
  state = cond (eqb m.kind 13) d (hears st d (message m)).state;
}
hears_no_keys st d (bytes s) = hears st d (bytes s)

abbrev pub keeps_no_keys : Model
keeps_no_keys = on_desks hears_no_keys movement_answered work_answered

-- a desk, and every key used in zone 0, for whatever train
pub record WithKeys : Type 0 where
  pub desk : Desk
  pub keys : ℕ

-- a movement with further keys
abbrev pub also_keyed : Movement → ℕ → Movement
also_keyed None keys = None
also_keyed (Some p) keys = Some (record {
  train = p.train;
  route = p.route;
  order = p.order;
  cleared = p.cleared;
  efficient = p.efficient;
  keys = union p.keys keys;
})

-- the desk with these keys in the movement of zone 0
abbrev pub keys_put : WithKeys → Desk
keys_put s =
    let z = zone_at s.desk 0 in
    let keyed : Zone = record {
      work = z.work;
      movement = also_keyed z.movement s.keys;
      recorder = z.recorder;
      time = z.time;
    } in
    record { zones = set s.desk.zones 0 keyed }

-- against KIND-8.3: a desk whose keys outlive the train: it answers the movement question with all
-- of them
abbrev pub gathers_keys : Station → WithKeys → Input → Heard WithKeys
gathers_keys st s i =
    let h = hears st s.desk i in
    record {
      reply = h.reply;
      state = record {
        desk = h.state;
        keys = union s.keys (key_set (zone_at h.state 0).movement);
      };
    }

abbrev pub keys_outlive : Model
keys_outlive = record {
  State = WithKeys;
  fresh = record { desk = fresh_desk; keys = 0 };
  hear = gathers_keys;
  movement = λ st s zone train. movement_answered st (keys_put s) zone train;
  work = λ st s t. work_answered st s.desk t;
}
