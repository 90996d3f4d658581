-- Which release key may be used where: KIND-13.4 (docs/RULES.md).
use Rattle.std.specs.Prelude.{Bool, ◌&&◌, ◌||◌, ℕ, eqb}
use Rattle.sets.specs.Sets.{has}
use Rattle.station.specs.declared.Route.{Route}

-- RECORD-3: "d1 is 1 for Tcl and 2 for Es"
abbrev pub is_es : ℕ → Bool
is_es key = eqb key 2

-- KIND-13.4: "Turned away: 23, unless the turnout is flank, or is in the exit zone and the key is
-- Es": of a route, a turnout and a key. In a route that no sheet gave a turnout that is flank and
-- run over counts as flank (VALUE-3)
abbrev pub key_fits : Route → ℕ → ℕ → Bool
key_fits r n key = has r.flank n || (has r.exits n && is_es key)
