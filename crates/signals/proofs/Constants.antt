-- MIR has no name for a constant array: each function that reads one has a statement that lends it.
-- Here the numbers of the array are read off that statement.
use mathlib.Core.Path.{◌≡◌}
use mathlib.Core.List.{List, []}
use Prim.Native.Nat.{ℕ}
use lib.ListN.{replicate}
use mir.Syntax.{Place, Ty, Body, lend_static}
use mir.Syntax.{Const, c_int, c_bool, c_float, c_unit, c_ints, c_repeat, c_parts, c_here}

-- the number of an unsigned constant; 0 for anything else
abbrev number : Const → ℕ
number (c_int w n) = n
number (c_bool b) = 0
number (c_float f n) = 0
number c_unit = 0
number (c_ints w ns) = 0
number (c_repeat c n) = 0
number (c_parts cs) = 0
number (c_here n) = 0

-- the elements of an array of constants, written out or as one that is repeated
abbrev pub elements : Const → List ℕ
elements (c_int w n) = []
elements (c_bool b) = []
elements (c_float f n) = []
elements c_unit = []
elements (c_ints w ns) = ns
elements (c_repeat c n) = replicate n (number c)
elements (c_parts cs) = []
elements (c_here n) = []

-- what a statement lends
abbrev pub lent : {p : Place} {t : Ty} {v : Const} (s : Body) → s ≡ lend_static p t v → Const
lent {p} {t} {v} s e = v
