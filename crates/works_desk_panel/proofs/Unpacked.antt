-- Code and index come back where both are below 256.
use mathlib.Core.List.{List}
use Prim.Native.Nat.{ℕ, ◌<◌}
use Rattle.packing.proofs.Bytes.{two_bytes}
use Rattle.panel.specs.Panel.{read_panel_sheet}
use Rattle.works_desk_panel.specs.Unpacked.{PanelBytes}

pub panel-bytes :
    (s : List ℕ) → (read_panel_sheet s).code < 256 → (read_panel_sheet s).index < 256 → PanelBytes s
panel-bytes s Code-fits index-fits =
    let both = two_bytes (read_panel_sheet s).code (read_panel_sheet s).index Code-fits index-fits in
    record { code-byte = both.low_byte; index-byte = both.next-byte }
