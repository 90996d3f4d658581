-- The cases of the history's words: each computes.
use mathlib.Core.Path.{refl}
use Rattle.sets.specs.Range.{count_from}
use Rattle.sets.specs.Sets.{has, single, set_of, count}
use Rattle.groups.specs.Groups.{carriers_among, tied_among, grouped}
use Rattle.station.specs.Station.{the_route}
use Rattle.history.specs.Since.{after_last, after_first, any, any_then_none}
use Rattle.history.specs.History.{under_agreed_work, open_to_work, standing, cleared}
use Rattle.history.specs.Cases.{WordCases}

pub word-cases : WordCases
unfolding has single set_of count count_from carriers_among tied_among the_route grouped under_agreed_work open_to_work standing cleared
    after_last after_first any any_then_none
word-cases = record {
  under-1 = refl;
  under-3 = refl;
  under-11 = refl;
  part = refl;
  open-3 = refl;
  open-6 = refl;
  open-10 = refl;
  device = refl;
  standing-3 = refl;
  standing-6 = refl;
  standing-8 = refl;
  standing-10 = refl;
  cancelled = refl;
  cleared-3 = refl;
  cleared-6 = refl;
  cleared-10 = refl;
  cleared-alone = refl;
  next-train = refl;
  next-stands = refl;
  opened-again = refl;
  asked-again = refl;
  agreed-again = refl;
  not-open-again = refl;
  open-later = refl;
  of-route = refl;
  well = refl;
  well-2 = refl;
  declaration-3 = refl;
  other-train = refl;
  other-position = refl;
  other-turnout = refl;
  reverse = refl;
  not-reverse = refl;
  covers_one = refl;
  covers-one-2 = refl;
  alone = refl;
  lacks-4 = refl;
  lacks-6 = refl;
  key-Tcl = refl;
  key-Es = refl;
  key-other-train = refl;
  no_key = refl;
  allows-key = refl;
  allows-cleared = refl;
  allows-not = refl;
  lacks-no-key = refl;
  lacks-with-key = refl;
  keyed-open = refl;
  keyed-not-cleared = refl;
  keyed-passed = refl;
}
