-- One turnout and one route in bytes: what was written is read again, from the start of bytes or
-- from a place in them, and what was read is written again.
use mathlib.Core.Path.{◌≡◌, refl, sym, ap, ◌∙◌}
use mathlib.Core.List.{List, [], ◌∷◌, ◌++◌}
use Prim.Native.Nat.{ℕ, zero, suc, ◌+◌}
use native.Mathlib.Nat.{suc-add, add_assoc, mod-eq_of_lt}
use lib.ListN.{get_or, drop}
use Rattle.bigendian.specs.BigEndian.{Bytes, bytes_at}
use Rattle.bigendian.proofs.Numbers.{value-bytes}
use Rattle.bigendian.proofs.Places.{bytes_at-add, bytes-number}
use Rattle.station.specs.declared.Turnout.{Turnout}
use Rattle.station.specs.declared.Route.{Route}
use Rattle.layout.specs.Layout.{turnout_in, route_in}
use Rattle.sheet_bytes.specs.SheetBytes.{turnout_bytes, route_bytes}
use Rattle.sheet_bytes.specs.Typed.{TypedRoute}

-- what was written at the start of bytes is read there
pub turnout-read : (t : Turnout) (after : List ℕ) → turnout_in (turnout_bytes t ++ after) 0 ≡ t
turnout-read t after = refl

pub route-read :
    (r : Route) → TypedRoute r → (after : List ℕ) → route_in (route_bytes r ++ after) 0 ≡ r
route-read r fits after =
    let over = value-bytes 8 r.over ∙ mod-eq_of_lt fits.over in
    let flank = value-bytes 8 r.flank ∙ mod-eq_of_lt fits.flank in
    let exits = value-bytes 8 r.exits ∙ mod-eq_of_lt fits.exits in
    let reverse = value-bytes 8 r.reverse ∙ mod-eq_of_lt fits.reverse in
    λ i. record {
      zone = r.zone;
      over = over i;
      flank = flank i;
      exits = exits i;
      reverse = reverse i;
    }

-- a record is read from a place as from the start of what follows the place
pub turnout-from : (at : ℕ) (s : List ℕ) → turnout_in s at ≡ turnout_in (drop at s) 0
turnout-from zero s = refl
turnout-from (suc at) [] = refl
turnout-from (suc at) (b ∷ s) =
    let next : turnout_in (b ∷ s) (suc at) ≡ turnout_in s at = simp suc-add in
    next ∙ turnout-from at s

pub route-from : (at : ℕ) (s : List ℕ) → route_in s at ≡ route_in (drop at s) 0
route-from zero s = refl
route-from (suc at) [] = refl
route-from (suc at) (b ∷ s) =
    let next : route_in (b ∷ s) (suc at) ≡ route_in s at = simp suc-add in
    next ∙ route-from at s

-- the bytes of a record that was read are those that stand there
pub turnout-written : (s : List ℕ) (at : ℕ) → turnout_bytes (turnout_in s at) ≡ bytes_at s at 3
turnout-written s at =
    let third : at + 2 ≡ at + 1 + 1 = sym (add_assoc at 1 1) in
    λ i. get_or s at 0 ∷ get_or s (at + 1) 0 ∷ get_or s (third i) 0 ∷ []

pub route-written :
    (s : List ℕ) → Bytes s → (at : ℕ) → route_bytes (route_in s at) ≡ bytes_at s at 33
route-written s byte at =
    let over = bytes-number 8 s (at + 1) byte in
    let flank = bytes-number 8 s (at + 9) byte in
    let exits = bytes-number 8 s (at + 17) byte in
    let reverse = bytes-number 8 s (at + 25) byte in
    (λ i. get_or s at 0 ∷ (over i ++ (flank i ++ (exits i ++ reverse i))))
    ∙ ap (λ (l : List ℕ). get_or s at 0 ∷ l) (sym joined)
  where
    -- the eight bytes that begin so far into the record
    set : ℕ → List ℕ
    set into = bytes_at s (at + into) 8

    then-rest :
        (into w : ℕ) →
        bytes_at s (at + into) (8 + w) ≡ set into ++ bytes_at s (at + (into + 8)) w
    then-rest into w =
        bytes_at-add s (at + into) 8 w
        ∙ ap (λ (place : ℕ). set into ++ bytes_at s place w) (add_assoc at into 8)

    joined : bytes_at s (at + 1) 32 ≡ set 1 ++ (set 9 ++ (set 17 ++ set 25))
    joined =
        then-rest 1 24
        ∙ ap (λ (l : List ℕ). set 1 ++ l) (then-rest 9 16)
        ∙ ap (λ (l : List ℕ). set 1 ++ (set 9 ++ l)) (then-rest 17 8)
