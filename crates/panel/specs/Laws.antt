-- How the answers of the panel's reader and of the desk's go together: PANEL-1 to PANEL-3
-- (docs/RULES.md). The claim stands at the end; proofs/Laws.antt proves it.
use Rattle.std.specs.Prelude.{true, List, ◌≢◌, ◌⊎◌, ◌↔◌, ◌≡◌, ℕ, ◌≤◌, ◌<◌, length}
use Rattle.layout.specs.Layout.{has_mark, version, version_kept, count_p, count_r, station_in}
use Rattle.sheet.specs.Sheet.{Sheet}
use Rattle.layout.specs.Counts.{GoodCounts}
use Rattle.sheet.specs.Sheet.{read_sheet, refused_sheet}
use Rattle.panel.specs.Panel.{read_panel_sheet}

-- bytes with a header that is good but for the panel's limits, and of whatever length from 8 on
pub record OverLimits (s : List ℕ) : Type 0 where
  pub header : 8 ≤ length s
  pub mark : has_mark s ≡ true
  pub version-kept : version_kept (version s) ≡ true
  -- PANEL-2: "after the counts are found in range": P 1 to 64, R 0 to 64, Z 1 to 8
  pub counts : GoodCounts (station_in s)
  -- PANEL-2: "more than 16 turnouts or 8 routes"
  pub over : (16 < count_p s) ⊎ (8 < count_r s)

-- what PANEL-1 to PANEL-3 ask of the panel's answer to bytes s and of the desk's
pub record PanelLaws (s : List ℕ) (panel desk : Sheet) : Type 0 where
  -- PANEL-3: "On a sheet within both limits the two calls give the same station": the same whole
  -- answer, a refusal's too
  pub same-within : count_p s ≤ 16 → count_r s ≤ 8 → panel ≡ desk
  -- PANEL-2: "9, more than 16 turnouts or 8 routes, .. after the counts are found in range and
  -- before the length; ..
  pub nine : (panel.code ≡ 9) ↔ OverLimits s
  -- .. the station is the empty one.", and the index 0
  pub empty-with-nine : panel.code ≡ 9 → panel ≡ refused_sheet 9 0
  -- PANEL-3: in all else they agree, so what the panel accepts the desk accepts, with the same
  -- station ..
  pub same-without-nine : panel.code ≢ 9 → panel ≡ desk
  -- PANEL-1: .. which is within both limits
  pub accepted-within :
      panel.code ≡ 0 → (panel.station.turnouts ≤ 16) × (panel.station.routes ≤ 8)
  -- PANEL-2: "by the panel's call alone"
  pub never-by-the-desk : desk.code ≢ 9

-- The claim, of all bytes.
abbrev pub EachRead : Type 0
EachRead = (s : List ℕ) → PanelLaws s (read_panel_sheet s) (read_sheet s)
