-- The desks that share something between zones do not keep M-106, shown on the station of two zones.
use mathlib.Core.Bool.{true≢false}
use mathlib.Core.List.{List, [], ◌∷◌}
use mathlib.Core.Path.{◌≡◌, sym, ap, ◌∙◌}
use Prim.Native.Nat.{ℕ}
use native.Mathlib.Omega.{arith}
use Rattle.desk.specs.Questions.{MovementAnswer, WorkAnswer}
use Rattle.history.specs.Lists.{Reply}
use Rattle.history.specs.Separation.{Separation}
use Rattle.history.specs.SharingDesks.{common_clock, common_recorder, common_agreement}
use Rattle.history.specs.SharingDesks.{movement_of_zone0, work_of_zone0}
use Rattle.history.specs.TwoZones.{sheet_two, quiet, to_clearance, alone, after_later, after_out}
use Rattle.history.specs.TwoZones.{with_agreement, asked0, open0}
use Rattle.history.specs.CaseMessages.{reply}
use Rattle.history.proofs.ZoneCases.{two-zones}

-- the last answer
abbrev last : List Reply → Reply
last [] = reply 0 0
last (r ∷ []) = r
last (r ∷ s ∷ rest) = last (s ∷ rest)

abbrev last_code : List Reply → ℕ
last_code replies = (last replies).code

-- zone 0's message is refused by 14 for zone 1's time
pub common-clock-fails : Separation common_clock → ⊥
common-clock-fails apart =
    let alike = two-zones.clock-alike in
    let same = (apart sheet_two two-zones.sheet 0 after_later alone alike).answers in
    let codes : ◌≡◌ {A = ℕ} 14 0 =
    ap last_code (sym two-zones.clock-later ∙ same ∙ two-zones.clock-alone) in
    omega arith

-- zone 0's clearance by voice is refused by 21 for zone 1's recorder
pub common-recorder-fails : Separation common_recorder → ⊥
common-recorder-fails apart =
    let alike = two-zones.recorder-alike in
    let same = (apart sheet_two two-zones.sheet 0 after_out to_clearance alike).answers in
    let codes : ◌≡◌ {A = ℕ} 21 0 =
    ap last_code (sym two-zones.recorder-out ∙ same ∙ two-zones.recorder-alone) in
    omega arith

-- zone 0's minutes are counted from zone 1's agreement
pub common-agreement-fails : Separation common_agreement → ⊥
common-agreement-fails apart =
    let alike = two-zones.agreement-alike in
    let same = (apart sheet_two two-zones.sheet 0 with_agreement quiet alike).answers in
    let minutes : ◌≡◌ {A = ℕ} 0 2 =
    ap (λ (replies : List Reply). (last replies).minutes)
    (sym two-zones.agreement-beside ∙ same ∙ two-zones.agreement-alone) in
    omega arith

-- zone 1, where nothing stands, has zone 0's movement
pub movement-of-zone-0-fails : Separation movement_of_zone0 → ⊥
movement-of-zone-0-fails apart =
    let alike = two-zones.movement-alike in
    let same = (apart sheet_two two-zones.sheet 1 asked0 [] alike).questions.movement 512 in
    let codes : ◌≡◌ {A = ℕ} 0 15 =
    sym two-zones.movement-beside
    ∙ ap (λ (a : MovementAnswer). a.code) same
    ∙ two-zones.movement-alone in
    omega arith

-- turnout 1, in zone 1, is open by zone 0's work
pub work-of-zone-0-fails : Separation work_of_zone0 → ⊥
work-of-zone-0-fails apart =
    let alike = two-zones.work-alike in
    let there = two-zones.of-zone-1 in
    let same = (apart sheet_two two-zones.sheet 1 open0 [] alike).questions.work 1 there in
    true≢false
    (sym two-zones.work-beside
    ∙ ap (λ (a : WorkAnswer). a.yes) same
    ∙ two-zones.work-alone)
