-- A movement: none, or one that stands; what it says, and what the kinds do to it: ZONE-1, REGIME-1
-- to REGIME-3 and the effects of KIND-5 to KIND-7 and KIND-13 (docs/RULES.md). Nothing else but its
-- encoding in bytes looks into a movement.
use Rattle.std.specs.Prelude.{Bool, true, false, cond, not, ◌&&◌, ℕ, eqb, Option, None, Some}
use Rattle.std.specs.Int.Bits.{bit_and}
use Rattle.sets.specs.Sets.{union, without, within, is_empty, single}
use Rattle.station.specs.declared.Station.{Station}
use Rattle.station.specs.declared.Route.{Route}
use Rattle.station.specs.Station.{empty_route, the_route, named_by}
use Rattle.zone.specs.declared.Passage.{Passage}
use Rattle.zone.specs.declared.Regime.{Regime}
use Rattle.zone.specs.declared.Regime.TheVariants.{Held, Clear, Danger}
use Rattle.zone.specs.declared.Work.{Work}
use Rattle.zone.specs.Work.{agreed_set}

-- a zone's movement: none, or one that stands
abbrev pub Movement : Type 0
Movement = Option Passage

abbrev pub is_standing : Movement → Bool
is_standing None = false
is_standing (Some p) = true

abbrev pub train_of : Movement → ℕ
train_of None = 0
train_of (Some p) = p.train

-- a movement "under this id"
abbrev pub under_train : Movement → ℕ → Bool
under_train v id = is_standing v && eqb (train_of v) id

-- 0 not ordered, 1 ordered clear, 2 ordered at danger
abbrev pub order_of : Movement → ℕ
order_of None = 0
order_of (Some p) = p.order

-- ordered: 18 in KIND-7.2 and KIND-9.2; where it is not, 18 in KIND-8.2
abbrev pub is_ordered : Movement → Bool
is_ordered v = not (eqb (order_of v) 0)

abbrev pub cleared_set : Movement → ℕ
cleared_set None = 0
cleared_set (Some p) = p.cleared

-- the cleared turnouts whose declaration means all efficient
abbrev pub efficient_set : Movement → ℕ
efficient_set None = 0
efficient_set (Some p) = p.efficient

-- the turnouts on which a release key was used for the movement
abbrev pub key_set : Movement → ℕ
key_set None = 0
key_set (Some p) = p.keys

-- the turnouts that lack nothing: cleared, or, KIND-13.5: "A turnout with a key counts as lacking
-- nothing"
abbrev pub lack_nothing : Movement → ℕ
lack_nothing v = union (cleared_set v) (key_set v)

-- REGIME-2, VALUE-6: the turnouts that let the signals be clear: efficient, or with a key
abbrev pub allow_clear : Movement → ℕ
allow_clear v = union (efficient_set v) (key_set v)

-- the route of the movement; where none stands, one that names nothing
abbrev pub route_for : Station → Movement → Route
route_for st None = empty_route
route_for st (Some p) = the_route st p.route

-- the number of its route; 255, which no route has, where none stands
abbrev pub route_number : Movement → ℕ
route_number None = 255
route_number (Some p) = p.route

-- the turnouts that a standing movement names
abbrev pub named_turnouts : Station → Movement → ℕ
named_turnouts st v = named_by (route_for st v)

-- "the route's turnouts under agreed work"
abbrev pub worked_turnouts : Route → Work → ℕ
worked_turnouts r w = bit_and (named_by r) (agreed_set w)

-- REGIME-1: those of them that have neither a clearance for a movement nor a key
abbrev pub lacking_on : Route → Work → Movement → ℕ
lacking_on r w v = without (worked_turnouts r w) (lack_nothing v)

-- REGIME-1, REGIME-2, REGIME-3: "Regime: of the route's turnouts under agreed work, held if one
-- lacks a clearance, else clear if all carry 1 or 2, else danger"; M-105: "'Signals clear' then
-- means that each worked turnout of the route has either its efficient clearance or its key"
unfoldable pub regime_on : Route → Work → Movement → Regime
regime_on r w v =
    cond (not (is_empty (lacking_on r w v))) Held
    (cond (within (worked_turnouts r w) (allow_clear v)) Clear Danger)

-- the same of a movement, on its own route
abbrev pub lacking : Station → Work → Movement → ℕ
lacking st w v = lacking_on (route_for st v) w v

abbrev pub regime_of : Station → Work → Movement → Regime
regime_of st w v = regime_on (route_for st v) w v

abbrev pub is_held : Regime → Bool
is_held Held = true
is_held Clear = false
is_held Danger = false

abbrev pub is_clear : Regime → Bool
is_clear Held = false
is_clear Clear = true
is_clear Danger = false

-- the number of a regime: 0 held, 1 clear, 2 danger
abbrev pub regime_number : Regime → ℕ
regime_number Held = 0
regime_number Clear = 1
regime_number Danger = 2

-- KIND-7.3: "Order 22: clear needs clear; danger needs not held."
abbrev pub order_refused : ℕ → Regime → Bool
order_refused order regime = cond (eqb order 1) (not (is_clear regime)) (is_held regime)

-- KIND-5.3: "movement asked"
abbrev pub movement_for : ℕ → ℕ → Movement
movement_for train route =
    Some (record {
      train = train;
      route = route;
      order = 0;
      cleared = 0;
      efficient = 0;
      keys = 0;
    })

-- KIND-6.6: "cleared"; efficient or not as the declaration says
abbrev pub cleared_at : Movement → ℕ → Bool → Movement
cleared_at None n efficient = None
cleared_at (Some p) n efficient = Some (record {
  train = p.train;
  route = p.route;
  order = p.order;
  cleared = union p.cleared (single n);
  efficient = union p.efficient (cond efficient (single n) 0);
  keys = p.keys;
})

-- KIND-13.5: "key used"; the turnout "is not cleared"
abbrev pub keyed_at : Movement → ℕ → Movement
keyed_at None n = None
keyed_at (Some p) n = Some (record {
  train = p.train;
  route = p.route;
  order = p.order;
  cleared = p.cleared;
  efficient = p.efficient;
  keys = union p.keys (single n);
})

-- KIND-7.4: "ordered"
abbrev pub ordered_as : Movement → ℕ → Movement
ordered_as None order = None
ordered_as (Some p) order = Some (record {
  train = p.train;
  route = p.route;
  order = order;
  cleared = p.cleared;
  efficient = p.efficient;
  keys = p.keys;
})
