-- The invariant is the tables filled so far, of records and of how many lower ends stand below each.
use Rattle.std.proofs.Common.{◌≡◌, ◌≤◌, ℕ, List, Bool, cond}
use Prim.Native.Nat.{min}
use lib.Dec.{eqb}
use lib.ListN.{get_or}
use Rattle.sets.specs.Range.{count_from}
use Rattle.sets.specs.Table.{places}
use Rattle.station.specs.declared.Turnout.{Turnout}
use Rattle.station.specs.Station.{empty_turnout}
use Rattle.partner_records.specs.PartnerRecords.{lower_end_of, with_number}
use Rattle.partner_records.proofs.renumber.Given as goal

-- turnout k of the records ts is a lower end
abbrev pub lower : ℕ → List Turnout → ℕ → Bool
lower p ts k = lower_end_of p k (get_or ts k empty_turnout)

-- how many lower ends stand below m
abbrev pub below-it : ℕ → List Turnout → ℕ → ℕ
below-it p ts m = count_from (lower p ts) 0 m

-- the record t of turnout k with the number that the counts below give it
abbrev pub number_by : (ℕ → ℕ) → ℕ → Turnout → ℕ
number_by below k t = cond (eqb t.group 255) 255 (below (min k t.group))

abbrev pub numbered : ℕ → List Turnout → ℕ → Turnout
numbered p ts k =
    let t = get_or ts k empty_turnout in
    with_number t (number_by (below-it p ts) k t)

abbrev pub invariant-loop-i : goal.invariant-loop-i
invariant-loop-i l =
    (l.found ≤ l.i)
    × (l.found ≡ below-it l.n l.old l.i)
    × (l.below ≡ places (below-it l.n l.old) l.i 0)
    × (l.ts ≡ places (numbered l.n l.old) l.i empty_turnout)
