-- Whether a clearance fits its turnout (20: FIT-1 to FIT-5) and its medium the recorder (21:
-- KIND-6.5); docs/RULES.md.
use Rattle.std.specs.Prelude.{Bool, true, cond, not, ◌&&◌, ◌||◌, ℕ, eqb, leb}
use Rattle.sets.specs.Sets.{has}
use Rattle.station.specs.declared.Station.{Station}
use Rattle.station.specs.declared.Route.{Route}
use Rattle.station.specs.Station.{drive_of}
use Rattle.groups.specs.Groups.{grouped}
use Rattle.message.specs.declared.Message.{Message}

-- FIT-5: "Declarations 1 and 2 mean all efficient"
abbrev pub is_efficient : ℕ → Bool
is_efficient declaration = eqb declaration 1 || eqb declaration 2

-- FIT-1: "d2 is the route's position": 1 in the route's reverse, else 0
abbrev pub position_fits : Route → ℕ → ℕ → Bool
position_fits r n position = eqb position (cond (has r.reverse n) 1 0)

-- FIT-2, VALUE-4: "d1 fits the drive (1, 2 either; 3-6 electric; 7-9 hand; Annex C)"
abbrev pub drive_fits : ℕ → ℕ → Bool
drive_fits declaration drive =
    cond (leb declaration 2) true (cond (leb declaration 6) (eqb drive 0) (eqb drive 1))

-- FIT-3: "For 4, 6, 9: 1 if run over, else 0. For 8: 1 or 2 if run over, else 0 .. Others: 0."
abbrev pub clamp_fits : ℕ → Bool → ℕ → Bool
clamp_fits declaration over clamp =
    cond (eqb declaration 4 || eqb declaration 6 || eqb declaration 9) (eqb clamp (cond over 1 0))
    (cond (eqb declaration 8) (cond over (eqb clamp 1 || eqb clamp 2) (eqb clamp 0))
    (eqb clamp 0))

-- FIT-4: "with declaration 1 or 2 on a turnout of a group, of whatever size, d5 is 1; in every other
-- clearance d5 is 0"
abbrev pub group_fits : ℕ → Bool → ℕ → Bool
group_fits declaration is_grouped covers =
    eqb covers (cond (is_efficient declaration && is_grouped) 1 0)

-- KIND-6.4, FIT-1 to FIT-4: "Clearances fit (20) when d2 is the route's position, d1 fits the drive
-- .. and so does d3", and d5 fits too
unfoldable pub clearance_fits : Station → Route → Message → Bool
clearance_fits st r m =
    position_fits r m.d0 m.d2
    && drive_fits m.d1 (drive_of st m.d0)
    && clamp_fits m.d1 (has r.over m.d0) m.d3
    && group_fits m.d1 (grouped st m.d0) m.d5

-- KIND-6.5: "Check 21: voice needs a working recorder, written one that is out (3.26)."
abbrev pub medium_fits : Bool → ℕ → Bool
medium_fits working medium = cond (eqb medium 1) working (not working)
