-- The station of an accepted sheet, of either version, is of machine types.
use mathlib.Core.Bool.{Bool, true, false, cond}
use mathlib.Core.List.{List}
use mathlib.Core.Path.{◌≡◌}
use Prim.Native.Nat.{ℕ, ◌<◌, min}
use native.Mathlib.Omega.{arith}
use lib.Dec.{eqb}
use Rattle.bigendian.specs.BigEndian.{Bytes}
use Rattle.sets.specs.Range.{count_from}
use Rattle.sets.proofs.Tables.{length-places}
use Rattle.station.specs.declared.Turnout.{Turnout}
use Rattle.station.specs.declared.Station.{Station}
use Rattle.station.specs.Station.{empty_turnout, turnout_at}
use Rattle.layout.specs.Layout.{version, station_in}
use Rattle.partner_records.specs.PartnerRecords.{partner_of, lower_end, pair_number, with_number, renumbered}
use Rattle.sheet.specs.Sheet.{read_sheet}
use Rattle.sheet.proofs.Accepted.{station-of}
use Rattle.sets.proofs.Totals.{count_most}
use Rattle.sheet_bytes.specs.Typed.{TypedTurnout, TypedStation}
use Rattle.sheet_bytes.proofs.Typed.{each-place, no-turnout-typed, station-typed}

module _ (st : Station) (fits : TypedStation st) where
  -- the number of a crossover's group fits in a byte
  number_fits : (n : ℕ) → pair_number st n < 256
  unfolding pair_number
  number_fits n = go (eqb (partner_of st n) 255)
    where
      go : (b : Bool) → cond b 255 (count_from (lower_end st) 0 (min n (partner_of st n))) < 256
      go true = omega arith
      go false =
          let most = count_most (lower_end st) (min n (partner_of st n)) in
          let partner = (fits.turnout n).group in
          omega (arith, most, partner)

  renumbered-typed : TypedStation (renumbered st)
  unfolding renumbered
  renumbered-typed = record {
    turnouts = fits.turnouts;
    routes = fits.routes;
    zones = fits.zones;
    turnout-places = length-places numbered st.turnouts empty_turnout;
    route-places = fits.route-places;
    turnout = each-place TypedTurnout numbered st.turnouts empty_turnout each no-turnout-typed;
    route = fits.route;
  }
    where
      numbered : ℕ → Turnout
      numbered n = with_number (turnout_at st n) (pair_number st n)

      each : (n : ℕ) → TypedTurnout (numbered n)
      each n =
          let t = fits.turnout n in
          record { zone = t.zone; group = number_fits n; drive = t.drive }

pub read-typed :
    (s : List ℕ) → Bytes s → (read_sheet s).code ≡ 0 → TypedStation (read_sheet s).station
read-typed s byte accepted = rw (station-of s accepted) (go (eqb (version s) 1))
  where
    st : Station
    st = station_in s

    go : (one : Bool) → TypedStation (cond one (renumbered st) st)
    go true = renumbered-typed st (station-typed s byte)
    go false = station-typed s byte
