-- A station is judged by its finding: 0 gives the station, any other number the refusal. The
-- reader's numbers are 0 to 6.
use mathlib.Core.Bool.{Bool, true, false, cond}
use mathlib.Core.List.{List}
use mathlib.Core.Path.{◌≡◌, refl, sym, ap, ◌∙◌}
use Prim.Native.Nat.{ℕ, ◌≤◌}
use native.Mathlib.Omega.{arith}
use lib.Dec.{eqb, ltb}
use Rattle.station.specs.declared.Station.{Station}
use Rattle.layout.specs.Layout.{header_number, version, station_in}
use Rattle.layout.proofs.Header.{header-most}
use Rattle.station.specs.Station.{turnouts_alone, turnout_count, route_count}
use Rattle.partner_records.specs.PartnerRecords as partners
use Rattle.group_records.specs.GroupRecords as groups
use Rattle.sheet.specs.Sheet.{Finding}
use Rattle.sheet.specs.Sheet.{bad_route, refused_sheet, finding_of, sheet_by, turnouts_found, meant}
use Rattle.sheet.specs.Sheet.{routes_judged, judged, judged_by_partners, judged_by, read_sheet}

pub routes-finding : (st : Station) → routes_judged st ≡ sheet_by (finding_of (routes_judged st)) st
unfolding routes_judged
routes-finding st = go (ltb (bad_route st) (route_count st)) refl
  where
    go :
        (r : Bool) → ltb (bad_route st) (route_count st) ≡ r
        → routes_judged st ≡ sheet_by (finding_of (routes_judged st)) st
    go true q = rw q
    go false q = rw q

-- the answer by a sheet's version, by what is found of its turnouts and then of its routes
pub by-turnouts :
    (v : ℕ) (st : Station) →
    judged_by v st
    ≡ cond (eqb (turnouts_found v st).code 0) (routes_judged (meant v st))
    (refused_sheet (turnouts_found v st).code (turnouts_found v st).index)
unfolding judged judged_by_partners
by-turnouts v st = go (eqb v 1)
  where
    found : Bool → ℕ → Finding
    found b bad = cond b (record { code = 5; index = bad }) (record { code = 0; index = 0 })

    either_way :
        (bad : ℕ) (x : Station) (b : Bool) →
        cond b (refused_sheet 5 bad) (routes_judged x)
        ≡ cond (eqb (found b bad).code 0) (routes_judged x)
        (refused_sheet (found b bad).code (found b bad).index)
    either_way bad x true = refl
    either_way bad x false = refl

    bad-in : Bool → ℕ
    bad-in one = cond one (partners.bad_turnout st) (groups.bad_turnout st)

    told : Bool → Finding
    told one = found (ltb (bad-in one) (turnout_count st)) (bad-in one)

    go :
        (one : Bool) → cond one (judged_by_partners st) (judged st)
        ≡ cond (eqb (told one).code 0) (routes_judged (cond one (partners.renumbered st) st))
        (refused_sheet (told one).code (told one).index)
    go true =
        either_way (partners.bad_turnout st) (partners.renumbered st)
        (ltb (partners.bad_turnout st) (turnout_count st))
    go false = either_way (groups.bad_turnout st) st (ltb (groups.bad_turnout st) (turnout_count st))

-- the same by what was found
pub by-found :
    (v : ℕ) (st : Station) (f : Finding) → f ≡ turnouts_found v st
    → judged_by v st
    ≡ cond (eqb f.code 0) (routes_judged (meant v st)) (refused_sheet f.code f.index)
by-found v st f e =
    by-turnouts v st
    ∙ ap (λ (g : Finding). cond (eqb g.code 0) (routes_judged (meant v st)) (refused_sheet g.code g.index))
    (sym e)

-- turnouts are judged, and numbered, without looking at routes
pub found-alone :
    (v : ℕ) (st : Station)
    → turnouts_found v (turnouts_alone st.turnouts st.zones st.turnout) ≡ turnouts_found v st
unfolding partners.bad_turnout partners.good_turnout groups.bad_turnout groups.good_turnout
found-alone v st = refl

-- the station that is meant is the one in the bytes with its turnouts numbered
pub numbered-alone :
    (v : ℕ) (st : Station) →
    record {
      turnouts = st.turnouts;
      routes = st.routes;
      zones = st.zones;
      turnout = (meant v (turnouts_alone st.turnouts 0 st.turnout)).turnout;
      route = st.route;
    }
    ≡ meant v st
unfolding partners.renumbered partners.pair_number
numbered-alone v st = go (eqb v 1)
  where
    alone : Station
    alone = turnouts_alone st.turnouts 0 st.turnout

    go :
        (one : Bool) →
        record {
          turnouts = st.turnouts;
          routes = st.routes;
          zones = st.zones;
          turnout = (cond one (partners.renumbered alone) alone).turnout;
          route = st.route;
        }
        ≡ cond one (partners.renumbered st) st
    go true = refl
    go false = refl

-- the reader's numbers are 0 to 6
routes-most : (st : Station) → (routes_judged st).code ≤ 6
unfolding routes_judged
routes-most st = go (ltb (bad_route st) (route_count st)) refl
  where
    go : (r : Bool) → ltb (bad_route st) (route_count st) ≡ r → (routes_judged st).code ≤ 6
    go true q = rw q (omega arith)
    go false q = rw q (omega arith)

judged-most : (v : ℕ) (st : Station) → (judged_by v st).code ≤ 6
unfolding judged judged_by_partners
judged-most v st =
    go (eqb v 1) (ltb (groups.bad_turnout st) (turnout_count st))
    (ltb (partners.bad_turnout st) (turnout_count st)) refl refl
  where
    go :
        (one g p : Bool) → ltb (groups.bad_turnout st) (turnout_count st) ≡ g
        → ltb (partners.bad_turnout st) (turnout_count st) ≡ p
        → (cond one (judged_by_partners st) (judged st)).code ≤ 6
    go true g true q r = rw r (omega arith)
    go true g false q r = rw r (routes-most (partners.renumbered st))
    go false true p q r = rw q (omega arith)
    go false false p q r = rw q (routes-most st)

pub code-most : (s : List ℕ) → (read_sheet s).code ≤ 6
unfolding read_sheet
code-most s = go (eqb (header_number s) 0) refl
  where
    go : (good : Bool) → eqb (header_number s) 0 ≡ good → (read_sheet s).code ≤ 6
    go true p = rw p (judged-most (version s) (station_in s))
    go false p =
        let most = header-most s in
        rw p (omega (arith, most))
