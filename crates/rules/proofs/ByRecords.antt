-- The routes that bear on a message, by their records.
use mathlib.Core.Path.{◌≡◌, ◌∙◌}
use Rattle.station.specs.declared.Station.{Station}
use Rattle.station.specs.Station.{route_at, route_index}
use Rattle.station.proofs.Routes.{route-by-record}
use Rattle.message.specs.declared.Message.{Message}
use Rattle.zone.specs.declared.Zone.{Zone}
use Rattle.zone.proofs.Numbers.{route-by-number}
use Rattle.rules.specs.Routes.{its_movement, concerned, route_numbers, by_records}

pub concerned-by-records :
    (st : Station) (z : Zone) (m : Message)
    → let n = route_numbers z m in
    by_records st.routes n
    (route_at st (route_index n.asked))
    (route_at st (route_index n.its))
    ≡ concerned st z m
concerned-by-records st z m =
    let n = route_numbers z m in
    let asked = route-by-record st n.asked in
    let its = route-by-record st n.its ∙ route-by-number st (its_movement z m) in
    λ i. record { asked = asked i; its = its i }
