-- Desks that APART-2 (docs/RULES.md) turns down, since a zone shares with another what it should
-- have by itself: the clock, the recorder, the time of the agreement, the answer to each question.
use Rattle.std.specs.Prelude.{cond, not, map, ℕ, eqb}
use Rattle.sets.specs.Sets.{is_empty}
use Rattle.zone.specs.declared.Work.{Work}
use Rattle.zone.specs.declared.Work.TheVariants.{NoWork, Asked, Agreed}
use Rattle.zone.specs.declared.Zone.{Zone}
use Rattle.zone.specs.Work.{open_set}
use Rattle.desk.specs.declared.Desk.{Desk}
use Rattle.desk.specs.Desk.{zone_at}
use Rattle.desk.specs.Questions.{movement_answered, work_answered}
use Rattle.history.specs.Lists.{Input, message_of, Model}
use Rattle.history.specs.Demand3.{hears, on_desks}

-- a desk that hears as ours does and, where it accepts, changes every zone by the input and the desk
-- after it
abbrev pub then_in_each : (Input → Desk → Zone → Zone) → Model
then_in_each change =
    on_desks
    (λ st d i.
    let h = hears st d i in
    record {
      reply = h.reply;
      state = cond (eqb h.reply.code 0)
          (record { zones = map (change i h.state) h.state.zones })
          h.state;
    })
    movement_answered work_answered

-- one clock for all zones: the time of the last accepted message, whatever its zone
abbrev pub common_clock : Model
common_clock = then_in_each (λ i d z. record {
  work = z.work;
  movement = z.movement;
  recorder = z.recorder;
  time = (message_of i).time;
})

-- one recorder for all zones: that of the zone whose message was accepted last
abbrev pub common_recorder : Model
common_recorder = then_in_each (λ i d z. record {
  work = z.work;
  movement = z.movement;
  recorder = (zone_at d (message_of i).zone).recorder;
  time = z.time;
})

-- a work, agreed at another time if it is agreed
abbrev pub agreed_anew : Work → ℕ → Work
agreed_anew NoWork time = NoWork
agreed_anew (Asked q) time = Asked q
agreed_anew (Agreed g) time = Agreed (record {
  form = g.form;
  manner = g.manner;
  set = g.set;
  since = time;
  opened = g.opened;
})

-- one time of agreement for all zones: that of the last agreement
abbrev pub common_agreement : Model
common_agreement = then_in_each (λ i d z. record {
  work = cond (eqb (message_of i).kind 2) (agreed_anew z.work (message_of i).time) z.work;
  movement = z.movement;
  recorder = z.recorder;
  time = z.time;
})

-- the movement question answered from zone 0, whatever zone is asked about
abbrev pub movement_of_zone0 : Model
movement_of_zone0 =
    on_desks hears (λ st d zone train. movement_answered st d 0 train) work_answered

-- the work question answered from zone 0: yes to every turnout while any is open there
abbrev pub work_of_zone0 : Model
work_of_zone0 =
    on_desks hears movement_answered
    (λ st d t. record { code = 0; yes = not (is_empty (open_set (zone_at d 0).work)) })
