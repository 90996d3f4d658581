-- A message heard by the desk is heard by the zone in its place, whose next state is put back.
use mathlib.Core.Bool.{Bool, true, false}
use mathlib.Core.List.{List}
use mathlib.Core.Path.{◌≡◌, refl, ap}
use Prim.Native.Nat.{ℕ}
use lib.ListN.{set}
use lib.Seq.{set-get_or}
use Rattle.station.specs.declared.Station.{Station}
use Rattle.message.specs.declared.Message.{Message}
use Rattle.zone.specs.declared.Zone.{Zone}
use Rattle.zone.specs.Zone.{no_zone, refused_in}
use Rattle.rules.specs.Kinds.{heard}
use Rattle.desk.specs.declared.Desk.{Desk}
use Rattle.desk.specs.Desk.{zone_at, put_back, refused_by, no_such_zone, reached, zone_place}
use Rattle.desk.specs.Desk.{zone_hears}

-- putting a zone back as it was leaves the desk as it was
pub zone-kept : (d : Desk) (n : ℕ) → set d.zones n (zone_at d n) ≡ d.zones
zone-kept d n = set-get_or d.zones n no_zone

-- a refusal put back is a refusal
pub refused_in_place :
    (d : Desk) (n number : ℕ) → put_back d n (refused_in (zone_at d n) number) ≡ refused_by d number
refused_in_place d n number =
    ap
    (λ (zones : List Zone). record { code = number; minutes = 0; desk = record { zones = zones } })
    (zone-kept d n)

pub reached-in-place :
    (st : Station) (d : Desk) (m : Message)
    → reached st d m ≡ put_back d (zone_place st m) (zone_hears st (zone_at d (zone_place st m)) m)
unfolding reached zone_place zone_hears heard
reached-in-place st d m = go (no_such_zone st m) refl
  where
    go :
        (b : Bool) → no_such_zone st m ≡ b
        → reached st d m ≡ put_back d (zone_place st m) (zone_hears st (zone_at d (zone_place st m)) m)
    go true none = rw (none, zone-kept d 0)
    go false some = rw some
