-- Every value of a packed answer comes back where it is below 256; the regime and yes need that of
-- the code alone.
use mathlib.Core.Bool.{Bool, true, false, cond}
use mathlib.Core.Path.{◌≡◌, refl, ap, ◌∙◌}
use Prim.Native.Nat.{ℕ, ◌+◌, ◌*◌, ◌<◌}
use native.Mathlib.Omega.{arith}
use native.Mathlib.Nat.{mod-eq_of_lt}
use Rattle.packing.specs.Bytes.{above, byte_of}
use Rattle.packing.proofs.Bytes as packing
use Rattle.zone.specs.declared.Regime.{Regime}
use Rattle.zone.specs.declared.Regime.TheVariants.{Held, Clear, Danger}
use Rattle.zone.specs.Movement.{regime_number}
use Rattle.desk.specs.Questions.{MovementAnswer, WorkAnswer}
use Rattle.packed.specs.Packed.{movement_packed}
use Rattle.packed.specs.Unpacked.{AnswerBytes, MovementBytes, WorkBytes}

pub answer-bytes : (code minutes : ℕ) → code < 256 → AnswerBytes code minutes
unfolding above
answer-bytes code minutes fits = record {
  code-byte = packing.lowest-byte code minutes fits;
  minutes-above = packing.above-next 0 code minutes fits;
}

-- a regime's number fits its byte
regime-fits : (r : Regime) → regime_number r < 256
regime-fits Held = omega arith
regime-fits Clear = omega arith
regime-fits Danger = omega arith

-- the values of the movement question, each above the one before
module _ (a : MovementAnswer) where
  counted : ℕ
  counted = a.lowest + 256 * a.count

  upper : ℕ
  upper = regime_number a.regime + 256 * counted

  nested : movement_packed a ≡ a.code + 256 * upper
  unfolding upper counted
  nested = omega arith

  pub regime-byte : a.code < 256 → byte_of 1 (movement_packed a) ≡ regime_number a.regime
  unfolding upper
  regime-byte Code-fits =
      ap (byte_of 1) nested ∙ packing.byte_next 0 a.code upper Code-fits
      ∙ packing.lowest-byte (regime_number a.regime) counted (regime-fits a.regime)

  pub movement-bytes : a.code < 256 → a.lowest < 256 → a.count < 256 → MovementBytes a
  unfolding upper counted above
  movement-bytes Code-fits lowest-fits count_fits =
      let regime = regime_number a.regime in
      let fits = regime-fits a.regime in
      let second = ap (byte_of 2) nested ∙ packing.byte_next 1 a.code upper Code-fits
      ∙ packing.byte_next 0 regime counted fits in
      let third = ap (byte_of 3) nested ∙ packing.byte_next 2 a.code upper Code-fits
      ∙ packing.byte_next 1 regime counted fits in
      record {
        code-byte = ap (byte_of 0) nested ∙ packing.lowest-byte a.code upper Code-fits;
        regime-byte = regime-byte Code-fits;
        lowest-byte = second ∙ packing.lowest-byte a.lowest a.count lowest-fits;
        count-byte =
            third
            ∙ packing.byte_next 0 a.lowest a.count lowest-fits
            ∙ mod-eq_of_lt count_fits;
      }

-- yes as the byte above the code
yes-packed : (code : ℕ) (yes : Bool) → cond yes (code + 256) code ≡ code + 256 * cond yes 1 0
yes-packed code true = omega arith
yes-packed code false = omega arith

yes-fits : (yes : Bool) → byte_of 0 (cond yes 1 0) ≡ cond yes 1 0
unfolding above
yes-fits true = refl
yes-fits false = refl

pub work-bytes : (a : WorkAnswer) → a.code < 256 → WorkBytes a
work-bytes a fits =
    let packed = yes-packed a.code a.yes in
    let yes : ℕ = cond a.yes 1 0 in
    record {
      code-byte = ap (byte_of 0) packed ∙ packing.lowest-byte a.code yes fits;
      yes-byte = ap (byte_of 1) packed ∙ packing.byte_next 0 a.code yes fits ∙ yes-fits a.yes;
    }
