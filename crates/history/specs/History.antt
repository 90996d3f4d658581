-- The words of the history, HIST-2 to HIST-8 (docs/RULES.md). HIST-1: "Over accepted messages of a
-- zone, in order; a 1 or 10 names what its a holds, a 6 its d0", and so does a 13 (M-105). These
-- definitions share nothing with the desk's rules but set membership, the station and which of its
-- turnouts are of a group, which the cases of the crate `groups` hold.
use Rattle.std.specs.Prelude.{Bool, true, false, cond, not, ◌&&◌, ◌||◌, List, ◌≡◌, ℕ, eqb}
use Rattle.sets.specs.Sets.{has}
use Rattle.station.specs.declared.Station.{Station}
use Rattle.station.specs.Station.{the_route, named_by}
use Rattle.groups.specs.Groups.{grouped}
use Rattle.message.specs.declared.Message.{Message}
use Rattle.history.specs.Since.{Since, never, since, after_last, after_first, any, any_then_none}

-- a message of kind k
abbrev pub is : ℕ → Message → Bool
is k m = eqb m.kind k

-- a 6 naming the turnout
abbrev pub clears : ℕ → Message → Bool
clears t m = is 6 m && eqb m.d0 t

-- a 4 naming it in a or b
abbrev pub opens : ℕ → Message → Bool
opens t m = is 4 m && (has m.a t || has m.b t)

-- a 10 naming the turnout, or an 11
abbrev pub ends : ℕ → Message → Bool
ends t m = is 10 m && has m.a t || is 11 m

-- an 8 or a 9
abbrev pub leaves : Message → Bool
leaves m = is 8 m || is 9 m

-- the last kind 1
abbrev pub asking : List Message → Since
asking H = after_last (is 1) H

-- the first 2 that follows it
abbrev pub agreed_after : Since → Since
agreed_after never = never
agreed_after (since q rest) = after_first (is 2) rest

abbrev pub agreement : List Message → Since
agreement H = agreed_after (asking H)

-- after the 2 nothing ended the work on the turnout
abbrev pub lasting : ℕ → Since → Bool
lasting t never = false
lasting t (since g later) = not (any (ends t) later)

-- the 1 names the turnout
abbrev pub asked_in : ℕ → Since → Bool
asked_in t never = false
asked_in t (since q rest) = has q.a t

-- HIST-2: "Under agreed work: the last kind 1 names the turnout, a 2 follows it, and after it no 10
-- naming the turnout and no 11."
unfoldable pub under_agreed_work : ℕ → List Message → Bool
under_agreed_work t H = asked_in t (asking H) && lasting t (agreement H)

-- after the 2 a 4 naming the turnout, and no 6 naming it after that 4
abbrev pub opened : ℕ → Since → Bool
opened t never = false
opened t (since g later) = any_then_none (opens t) (clears t) later

-- HIST-5: "Open to work: under agreed work, with a 4 naming it in a or b after that 2 and no 6
-- naming it after that 4."
unfoldable pub open_to_work : ℕ → List Message → Bool
open_to_work t H = under_agreed_work t H && opened t (agreement H)

-- the 5 with no 8 or 9 after it
abbrev pub unless_left : Since → Since
unless_left never = never
unless_left (since f rest) = cond (any leaves rest) never (since f rest)

-- HIST-3: "Standing: the last 5 has no 8 or 9 after it."
unfoldable pub standing : List Message → Since
standing H = unless_left (after_last (is 5) H)

abbrev pub cleared_after : ℕ → Since → Bool
cleared_after t never = false
cleared_after t (since f rest) = any (clears t) rest

-- HIST-4: "Cleared: in a standing movement, a 6 naming the turnout after that 5."
unfoldable pub cleared : ℕ → List Message → Bool
cleared t H = cleared_after t (standing H)

-- HIST-6: "Of its route: named by the route in that 5's d0."
abbrev pub of_its_route : Station → Message → ℕ → Bool
of_its_route st f t = has (named_by (the_route st f.d0)) t

-- HIST-7: "declaration 1 or 2"; M-101: "'All efficient' in the history of a movement then also
-- needs d5 = 1 on a turnout with a partner", now of a group
abbrev pub all_efficient : Station → ℕ → Message → Bool
all_efficient st t m =
    (eqb m.d1 1 || eqb m.d1 2) && (not (grouped st t) || eqb m.d5 1)

-- HIST-7: "Clearance for that train, in the route's position, all efficient: after that 5 a 6
-- naming the turnout, with the same id, d2 1 if in the route's reverse and else 0, declaration 1 or
-- 2", and the whole group covered where the turnout is of one
abbrev pub clears_well : Station → Message → ℕ → Message → Bool
clears_well st f t m =
    clears t m
    && eqb m.id f.id
    && eqb m.d2 (cond (has (the_route st f.d0).reverse t) 1 0)
    && all_efficient st t m

-- HIST-8, a key for that train: after that 5 a 13 naming the turnout, with the same id
abbrev pub key_for : Message → ℕ → Message → Bool
key_for f t m = is 13 m && eqb m.d0 t && eqb m.id f.id

-- HIST-11: "either its efficient clearance or its key"
abbrev pub allows_clear : Station → Message → List Message → ℕ → Bool
allows_clear st f rest t = any (clears_well st f t) rest || any (key_for f t) rest

-- HIST-11: "each turnout of its route under agreed work has, among the messages accepted since that
-- movement was asked, a clearance for that train in the route's position with rods, lock and
-- detection all efficient", or, by M-105, its key: of a movement asked by f, the messages H of its
-- zone and those after f
abbrev pub EachWorkedAllowsClear : Station → List Message → Message → List Message → Type 0
EachWorkedAllowsClear st H f rest =
    (t : ℕ) → of_its_route st f t ≡ true → under_agreed_work t H ≡ true
    → allows_clear st f rest t ≡ true

-- a turnout of its route under agreed work that has no clearance at all and no key since that
-- movement was asked
abbrev pub lacks : Station → List Message → Message → List Message → ℕ → Bool
lacks st H f rest t =
    of_its_route st f t && under_agreed_work t H && not (any (clears t) rest || any (key_for f t) rest)
