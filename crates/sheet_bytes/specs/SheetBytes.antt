-- A station as the bytes of a sheet: SHEET-1, SHEET-2 and SHEET-4; WRITE-1 (docs/RULES.md): "It
-- turns a station into sheet bytes".
use Rattle.std.specs.Prelude.{List, [], ◌∷◌, ◌++◌, ℕ, zero, suc, ◌+◌, min, get_or}
use Rattle.bigendian.specs.BigEndian.{be_bytes}
use Rattle.station.specs.declared.Turnout.{Turnout}
use Rattle.station.specs.declared.Route.{Route}
use Rattle.station.specs.declared.Station.{Station}
use Rattle.station.specs.Station.{empty_turnout, empty_route}

-- SHEET-1: "Header, 8 bytes: the letters SPT, version (16 bits, ..), counts P of turnouts .., R of
-- routes .., Z of zones .., a byte each." WRITE-1: "The writer writes version 2"
abbrev pub header_bytes : ℕ → ℕ → ℕ → List ℕ
header_bytes p r z = 83 ∷ 80 ∷ 84 ∷ (be_bytes 2 2 ++ (p ∷ r ∷ z ∷ []))

-- SHEET-2: "turnout records of 3 bytes: zone ..; group ..; drive .."
abbrev pub turnout_bytes : Turnout → List ℕ
turnout_bytes t = t.zone ∷ t.group ∷ t.drive ∷ []

-- SHEET-4: "routes of 33 bytes: zone, then the sets run over, flank, exit zone, reverse"
abbrev pub route_bytes : Route → List ℕ
route_bytes r =
    let last = be_bytes 8 r.exits ++ be_bytes 8 r.reverse in
    r.zone ∷ (be_bytes 8 r.over ++ (be_bytes 8 r.flank ++ last))

-- the bytes of k records from record i on, one record after another
unfoldable pub records_from : (ℕ → List ℕ) → ℕ → ℕ → List ℕ
records_from f i zero = []
records_from f i (suc k) = f i ++ records_from f (i + 1) k

-- SHEET-2: "Then P turnout records". Of a count over the 64 places, which no sheet has, those of
-- the 64 places, so that every station has its bytes.
abbrev pub turnout_records : ℕ → List Turnout → List ℕ
turnout_records p ts = records_from (λ n. turnout_bytes (get_or ts n empty_turnout)) 0 (min p 64)

-- SHEET-4: "Then R routes", likewise
abbrev pub route_records : ℕ → List Route → List ℕ
route_records r rs = records_from (λ n. route_bytes (get_or rs n empty_route)) 0 (min r 64)

-- WRITE-1, the sheet of a station: the header, the turnouts, the routes
unfoldable pub sheet_bytes : Station → List ℕ
sheet_bytes st =
    header_bytes st.turnouts st.routes st.zones
    ++ (turnout_records st.turnouts st.turnout ++ route_records st.routes st.route)
