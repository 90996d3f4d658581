-- Demand 3 of the unit: what holds after every list of records that a unit has heard one by one, on
-- every sheet that is accepted. It is demand 3 of the desk, which the unit follows.
use mathlib.Core.Path.{◌≡◌, sym, ap, ◌∙◌}
use Rattle.sheet.specs.Sheet.{read_sheet}
use Rattle.desk.specs.Desk.{fresh_desk}
use Rattle.desk_bytes.specs.Encoding.{desk_bytes}
use Rattle.history.specs.Lists.{after, answers, kept}
use Rattle.history.specs.Demand3.{ours}
use Rattle.history.proofs.Theorem.{demand3}
use Rattle.works_desk_unit.specs.OneByOne.{unit_of, IsRecord, UnitDemand3}
use Rattle.works_desk_unit.proofs.Typed.{fresh-typed}
use Rattle.works_desk_unit.proofs.Follows.{good-after, after_same, answers-same}
use Rattle.works_desk_unit.proofs.Follows.{accepted-same, kept_same, kept-answers-same}
use Rattle.works_desk_unit.proofs.Follows.{kept-pass}
use Rattle.works_desk_unit.proofs.OneByOne.{follows, movement-asked, work-asked}

pub unit-demand3 : UnitDemand3
unfolding follows
unit-demand3 sheet good inputs pass =
    let st = (read_sheet sheet).station in
    let U = unit_of sheet in
    let F = follows sheet good in
    let held = demand3 sheet good inputs in
    let d = after ours st fresh_desk inputs in
    let fits = good-after F fresh_desk fresh-typed inputs pass in
    let last : after U st U.fresh inputs ≡ desk_bytes d =
    after_same F fresh_desk fresh-typed inputs pass in
    let messages = accepted-same F fresh_desk fresh-typed inputs pass in
    let left = kept ours st fresh_desk inputs in
    let left-same : kept U st U.fresh inputs ≡ left =
    kept_same F fresh_desk fresh-typed inputs pass in
    let left-pass = kept-pass ours st IsRecord fresh_desk inputs pass in
    record {
      apart = rw messages held.apart;
      work = λ t. rw (messages, last, work-asked sheet good d fits t) (held.work t);
      clear =
          λ z f rest stands. rw (
            messages,
            last,
            movement-asked sheet good d fits z f.id,
          ) (held.clear z f rest (rw messages at stands));
      same-desk =
          ap (after U st U.fresh) left-same
          ∙ after_same F fresh_desk fresh-typed left left-pass
          ∙ ap desk_bytes held.same-desk
          ∙ sym last;
      same-answers =
          ap (answers U st U.fresh) left-same
          ∙ answers-same F fresh_desk fresh-typed left left-pass
          ∙ held.same-answers
          ∙ sym (kept-answers-same F fresh_desk fresh-typed inputs pass);
    }
