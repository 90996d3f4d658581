-- Works on signals, SIGNAL-1 to SIGNAL-10 (docs/RULES.md; Art. 3.5, 3.6, 3.13): which works on a
-- signal are allowed, as a rule on line, signal and flags.
use Rattle.std.specs.Prelude.{Bool, cond, not, ◌&&◌, ◌||◌, ℕ, ◌+◌, ◌-◌, ◌*◌, ◌/◌, ◌%◌, eqb, leb}

-- SIGNAL-1: "Flags: 1 can be held at danger, 2 day, 4 SSC (driver support) fitted, 8 its danger
-- message ensured, 16 auxiliary lights touched, 32 those cannot light wrongly": the flag of the
-- value v is set
unfoldable pub flag : ℕ → ℕ → Bool
flag v flags = eqb (flags / v % 2) 1

unfoldable pub can_be_held : ℕ → Bool
unfolding flag
can_be_held = flag 1

unfoldable pub by_day : ℕ → Bool
unfolding flag
by_day = flag 2

unfoldable pub ssc_fitted : ℕ → Bool
unfolding flag
ssc_fitted = flag 4

unfoldable pub ssc_ensured : ℕ → Bool
unfolding flag
ssc_ensured = flag 8

unfoldable pub lights_touched : ℕ → Bool
unfolding flag
lights_touched = flag 16

unfoldable pub lights_cannot_light_wrongly : ℕ → Bool
unfolding flag
lights_cannot_light_wrongly = flag 32

-- SIGNAL-8: "by day, with SSC absent or ensured, dark; 3 on line 1 for signals 0, 1, 4, otherwise
-- 2; failing that 5"
unfoldable pub dark_verdict : ℕ → ℕ → ℕ → ℕ
unfolding by_day ssc_fitted ssc_ensured
dark_verdict line signal flags =
    cond (by_day flags && (not (ssc_fitted flags) || ssc_ensured flags))
    (cond (eqb line 1 && (eqb signal 0 || eqb signal 1 || eqb signal 4)) 3 2)
    5

-- SIGNAL-3: "Verdicts: 1 M.45 at danger; 2 M.45 dark; 3 dark, block out; 4 any aspect, block out; 5
-- closure only; 6 no such signal." SIGNAL-4: "Line 1 signal 5: 6." SIGNAL-5: "Else lights touched
-- and (line 3, or not flag 32): 5." SIGNAL-6: "Else held: 1." SIGNAL-7: "Else line 3: 5." SIGNAL-8:
-- "Line 1, and line 2 signals 2 and 3: by day, .." SIGNAL-9: "Line 2 signal 5: 4; others 5."
unfoldable pub verdict_rule : ℕ → ℕ → ℕ → ℕ
unfolding dark_verdict can_be_held lights_touched lights_cannot_light_wrongly
verdict_rule line signal flags =
    cond (eqb line 1 && eqb signal 5) 6
    (cond (lights_touched flags && (eqb line 3 || not (lights_cannot_light_wrongly flags))) 5
    (cond (can_be_held flags) 1
    (cond (eqb line 3) 5
    (cond (eqb line 1 || eqb line 2 && (eqb signal 2 || eqb signal 3))
    (dark_verdict line signal flags)
    (cond (eqb line 2 && eqb signal 5) 4 5)))))

-- SIGNAL-2: "33: line, signal or flags (above 63) out of range": lines are 1 to 3, signals 0 to 5
unfoldable pub in_range : ℕ → ℕ → ℕ → Bool
in_range line signal flags = leb 1 line && leb line 3 && leb signal 5 && leb flags 63

-- SIGNAL-10: "The verdicts are held as a table of 1,152 entries at ((line - 1) × 6 + signal) × 64 +
-- flags."
abbrev pub place : ℕ → ℕ → ℕ → ℕ
place line signal flags = ((line - 1) * 6 + signal) * 64 + flags
