-- The groups of a station, for every station value: what is tied to a turnout, and which sets split a
-- group. SHEET-3, SHEET-12 and VALUE-2 (docs/RULES.md): "turnouts past P are of no group"; "In a station
-- not had from a sheet, 32 to 254, or a number that one turnout alone carries, reads as alone."
use Rattle.std.specs.Prelude.{Bool, cond, not, ◌&&◌, ◌||◌, List, ℕ, min, eqb, ltb, leb, get_or}
use Rattle.sets.specs.Range.{all_from}
use Rattle.sets.specs.Sets.{single, within, overlaps, set_of, count}
use Rattle.sets.specs.Table.{values_from}
use Rattle.station.specs.declared.Turnout.{Turnout}
use Rattle.station.specs.declared.Station.{Station}
use Rattle.station.specs.Station.{empty_turnout, turnout_count}

-- the number that turnout n carries, in the records ts
abbrev pub number_in : List Turnout → ℕ → ℕ
number_in ts n = (get_or ts n empty_turnout).group

-- the turnouts that carry the number g, of p turnouts with the records ts; VALUE-1: "a count over its
-- limit is read as the limit"
unfoldable pub carriers_among : ℕ → List Turnout → ℕ → ℕ
carriers_among p ts g = set_of (λ k. eqb (number_in ts k) g) (min p 64)

-- the turnouts tied to turnout n: those that carry its number, where that is a group's, 0 to 31. With
-- any other number it is alone; so is one that is not below P, and one whose number no other carries.
unfoldable pub tied_among : ℕ → List Turnout → ℕ → ℕ
tied_among p ts n =
    cond (ltb n (min p 64) && ltb (number_in ts n) 32) (carriers_among p ts (number_in ts n)) (single n)

abbrev pub carriers : Station → ℕ → ℕ
carriers st g = carriers_among st.turnouts st.turnout g

abbrev pub tied : Station → ℕ → ℕ
tied st n = tied_among st.turnouts st.turnout n

-- FIT-4, HIST-7, VALUE-2: a turnout of a group, of whatever size: another one is tied to it
unfoldable pub grouped : Station → ℕ → Bool
grouped st n = leb 2 (count (tied st n))

-- a set takes a group whole, or not at all
abbrev pub whole : ℕ → ℕ → Bool
whole group s = within group s || not (overlaps group s)

-- KIND-1.2, KIND-10.2, VALUE-2: "Wherever a set may not split a crossover, it must take a group whole
-- or not at all": some group is split
unfoldable pub splits : Station → ℕ → Bool
splits st s = not (all_from (λ n. whole (tied st n) s) 0 (turnout_count st))

-- For code: the sets of the 32 groups, and the turnouts tied to turnout n of number g out of them. The
-- law `tied-in` says that for n below P these are the tied ones.
unfoldable pub group_sets : ℕ → List Turnout → List ℕ
group_sets p ts = values_from (carriers_among p ts) 0 32

abbrev pub tied_in : List ℕ → ℕ → ℕ → ℕ
tied_in gs n g = cond (ltb g 32) (get_or gs g 0) (single n)
