-- Code and index of the panel's answer to any bytes as one number: the code, the index of the bad
-- record above it. The station does not cross to C.
use Rattle.std.specs.Prelude.{List, ℕ}
use Rattle.packing.specs.Bytes.{two_packed}
use Rattle.panel.specs.Panel.{read_panel_sheet}

abbrev pub panel_packed : List ℕ → ℕ
panel_packed s = two_packed (read_panel_sheet s).code (read_panel_sheet s).index
