-- The name lies within the text.
use Rattle.std.proofs.Common.{◌-◌, ◌≤◌, length, arith, drop_of_length-le, rules}
use lib.Seq.{take-nil}
use Rattle.case_rows.specs.Rows.{after_name, name_at}
use Rattle.case_rows.proofs.Steps.{name-within}
use Rattle.case_rows.proofs.name.Goals as goal

pub returns-then-text-at : goal.returns-then-text-at
unfolding name_at
returns-then-text-at c =
    let a = c.args in
    let past : length a.text.now ≤ a.at = omega arith in
    rw (
      drop_of_length-le a.text.now past,
      take-nil (after_name a.text.now a.at - a.at),
    )

-- the name does not end before its place, nor past the end of the text
inside :
    (c : goal.After-after_name-end) →
    (c.args.at ≤ c.after_name-end.result) × (c.after_name-end.result ≤ length c.args.text.now)
unfolding after_name
inside c =
    let a = c.args in
    rw c.after_name-end.ensures
    (name-within 40 a.text.now a.at (search rules) c.if-text-at.false)

pub slice_bounds-result-count-2 : goal.slice_bounds-result-count-2
slice_bounds-result-count-2 c = (inside c).0

pub slice_bounds-result-start-2 : goal.slice_bounds-result-start-2
slice_bounds-result-start-2 c = (inside c).0

pub slice_bounds-result-end-2 : goal.slice_bounds-result-end-2
slice_bounds-result-end-2 c = (inside c).1

pub returns : goal.returns
unfolding name_at
returns c = rw c.after_name-end.ensures
