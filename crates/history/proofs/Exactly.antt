-- What the desk keeps of each zone after a list is what the history says of it.
use mathlib.Core.Bool.{and-eq-true_iff}
use mathlib.Core.List.{List}
use Prim.Native.Nat.{ℕ}
use lib.Dec.{eqb}
use Rattle.message.specs.declared.Message.{Message}
use Rattle.station.specs.declared.Station.{Station}
use Rattle.zone.specs.declared.Zone.{Zone}
use Rattle.zone.specs.Movement.{is_standing, train_of}
use Rattle.zone.specs.Trains.{movement_under, cleared_standing}
use Rattle.zone.proofs.EachTrain.{found}
use Rattle.desk.specs.Desk.{zone_at}
use Rattle.history.specs.Lists.{Input, desk_after, zone_messages}
use Rattle.history.specs.Demand3.{ours}
use Rattle.history.specs.Exact.{ExactMovement, Exact}
use Rattle.history.proofs.Agrees.{under-is}
use Rattle.history.proofs.Standing.{cleared-is, Told, told, none-under}
use Rattle.history.proofs.Theorem.{all}

-- the movement of a zone, found by its train
by-train :
    (st : Station) (H : List Message) (zone : Zone) (f : Message) (rest : List Message)
    → Told st H zone.work zone.movement f rest → ExactMovement st H zone f rest
by-train st H zone f rest c =
    let v = zone.movement in
    let stands = ((and-eq-true_iff (is_standing v) (eqb (train_of v) f.id)).0 c.under).0 in
    let same = found zone f.id c.under in
    record {
      stands = rw same stands;
      lacking-of = λ t. rw same (c.lacking-of t);
      cleared-well = λ t. rw same (c.cleared-well t);
      keys-used = λ t. rw same (c.keys-used t);
    }

pub exact :
    (st : Station) (inputs : List Input) (z : ℕ)
    → Exact st (zone_messages ours st inputs z) (zone_at (desk_after ours st inputs) z)
unfolding cleared_standing movement_under
exact st inputs z =
    let H = zone_messages ours st inputs z in
    let zone = zone_at (desk_after ours st inputs) z in
    let a = (all st inputs).each z in
    record {
      under-work = under-is H zone.work a.works.work;
      opened = a.works.opened;
      cleared-for = cleared-is st H zone.movement a.movement;
      movement = λ f rest stands.
          by-train st H zone f rest
          (told st H H zone.work zone.movement f rest a.works.work a.movement stands);
      none-stands = λ none train. rw (none-under st H zone.movement train a.movement none);
    }
