-- The packed answer of the panel taken apart: byte 0 is the code, byte 1 the index of the bad record.
use Rattle.std.specs.Prelude.{List, ◌≡◌, ℕ}
use Rattle.packing.specs.Bytes.{byte_of}
use Rattle.panel.specs.Panel.{read_panel_sheet}
use Rattle.works_desk_panel.specs.Packed.{panel_packed}

pub record PanelBytes (s : List ℕ) : Type 0 where
  pub code-byte : byte_of 0 (panel_packed s) ≡ (read_panel_sheet s).code
  pub index-byte : byte_of 1 (panel_packed s) ≡ (read_panel_sheet s).index
