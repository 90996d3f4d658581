-- The cabin panel's reader of station sheets: PANEL-1 to PANEL-3 (docs/RULES.md). It is the desk's,
-- but for one check between counts and length.
use Rattle.std.specs.Prelude.{Bool, cond, not, List, ℕ}
use Rattle.layout.specs.Layout.{count_p, count_r, within_limits, before_length, length_number}
use Rattle.sheet.specs.Sheet.{Sheet}
use Rattle.sheet.specs.Sheet.{after_header}

-- PANEL-1: "it has lamps for 16 turnouts and 8 routes only"
abbrev pub within_panel : List ℕ → Bool
within_panel s = within_limits 16 8 (count_p s) (count_r s)

-- PANEL-2: "9, more than 16 turnouts or 8 routes, .. after the counts are found in range and before
-- the length"
unfoldable pub panel_number : List ℕ → ℕ
panel_number s = before_length s (cond (not (within_panel s)) 9 (length_number s))

-- PANEL-1: "its own reading call with these limits": the answer to any bytes as a panel's sheet
unfoldable pub read_panel_sheet : List ℕ → Sheet
read_panel_sheet s = after_header (panel_number s) s
