-- A station from numbers in bytes: its records as they stand in the 2,312 bytes of a sheet, and
-- then its three counts, which need not be those of the sheet. Where the sheet's own counts (its
-- bytes 5 and 6) are 64, every station can be given.
use Rattle.std.specs.Prelude.{List, ℕ}
use Rattle.bigendian.specs.BigEndian.{byte_at}
use Rattle.station.specs.declared.Station.{Station}
use Rattle.layout.specs.Layout.{station_in}

unfoldable pub station_of : List ℕ → Station
station_of s = record {
  turnouts = byte_at s 2312;
  routes = byte_at s 2313;
  zones = byte_at s 2314;
  turnout = (station_in s).turnout;
  route = (station_in s).route;
}
