-- One more message of a zone: what becomes of the history (HIST-2 to HIST-8 of docs/RULES.md),
-- whatever the list.
use mathlib.Core.Bool.{Bool, true, false, cond, not, ◌&&◌, ◌||◌, and-true, and-false, or-true}
use mathlib.Core.Bool.{or-false, and_assoc}
use mathlib.Core.List.{List, []}
use mathlib.Core.Path.{◌≡◌, refl, sym, ap, ap₂, ◌∙◌}
use Prim.Native.Nat.{ℕ}
use Rattle.sets.specs.Sets.{has}
use Rattle.message.specs.declared.Message.{Message}
use Rattle.history.specs.Since.{Since, never, since, after_last, after_first, any, any_then_none}
use Rattle.history.specs.History.{is, clears, opens, ends, leaves, asking, agreed_after}
use Rattle.history.specs.History.{agreement, lasting, asked_in, under_agreed_work, opened}
use Rattle.history.specs.History.{open_to_work, unless_left, standing}
use Rattle.history.proofs.Append.{◌then◌, extend, or_else-never, last_more, first_more}
use Rattle.history.proofs.Append.{any-more, then-more}

not-or : (a b : Bool) → not (a || b) ≡ (not a && not b)
not-or true b = refl
not-or false b = refl

module _ (H : List Message) (m : Message) where
  -- a 1 starts anew
  pub asking-anew : is 1 m ≡ true → asking (H then m) ≡ since m []
  asking-anew one = last_more (is 1) H m ∙ rw one

  pub asking-on : is 1 m ≡ false → asking (H then m) ≡ extend (asking H) m
  asking-on other = last_more (is 1) H m ∙ rw other

  pub asked_in-on : (t : ℕ) (s : Since) → asked_in t (extend s m) ≡ asked_in t s
  asked_in-on t never = refl
  asked_in-on t (since q rest) = refl

  agreed_after-on :
      is 2 m ≡ false → (s : Since) → agreed_after (extend s m) ≡ extend (agreed_after s) m
  agreed_after-on other never = refl
  agreed_after-on other (since q rest) =
      first_more (is 2) rest m ∙ rw other (or_else-never (extend (after_first (is 2) rest) m))

  -- where the message is no 1 and no 2, the agreement is the one before
  pub agreement-on : is 1 m ≡ false → is 2 m ≡ false → agreement (H then m) ≡ extend (agreement H) m
  agreement-on one two = ap agreed_after (asking-on one) ∙ agreed_after-on two (asking H)

  lasting-on : (t : ℕ) (s : Since) → lasting t (extend s m) ≡ (lasting t s && not (ends t m))
  lasting-on t never = refl
  lasting-on t (since g later) =
      ap not (any-more (ends t) later m) ∙ not-or (any (ends t) later) (ends t m)

  -- under agreed work, after a message that is no 1 and no 2
  pub under-on :
      is 1 m ≡ false → is 2 m ≡ false → (t : ℕ) →
      under_agreed_work t (H then m) ≡ (under_agreed_work t H && not (ends t m))
  unfolding under_agreed_work
  under-on one two t =
      ap₂ (λ (a l : Bool). a && l) (ap (asked_in t) (asking-on one) ∙ asked_in-on t (asking H))
      (ap (lasting t) (agreement-on one two) ∙ lasting-on t (agreement H))
      ∙ sym (and_assoc (asked_in t (asking H)) (lasting t (agreement H)) (not (ends t m)))

  opened-on : (t : ℕ) (asked : Bool) (s : Since)
      → (asked && lasting t (extend s m) && opened t (extend s m))
      ≡ (asked && lasting t s && not (ends t m) && (opens t m || opened t s && not (clears t m)))
  opened-on t true never = refl
  opened-on t false never = refl
  opened-on t asked (since g later) =
      rw (
        lasting-on t (since g later),
        then-more (opens t) (clears t) later m,
        and_assoc asked (lasting t (since g later)) (not (ends t m)),
      )

  -- open to work, after a message that is no 1 and no 2
  pub open-on : is 1 m ≡ false → is 2 m ≡ false → (t : ℕ)
      → open_to_work t (H then m)
      ≡ (under_agreed_work t H && not (ends t m)
      && (opens t m || opened t (agreement H) && not (clears t m)))
  unfolding open_to_work under_agreed_work
  open-on one two t =
      rw (
        asking-on one,
        agreed_after-on two (asking H),
        asked_in-on t (asking H),
      ) (opened-on t (asked_in t (asking H)) (agreement H))

  -- a 2 after a 1 that no 2 has followed yet
  agreed-now :
      is 2 m ≡ true → (t : ℕ) (s : Since) → agreed_after s ≡ never →
      (asked_in t (extend s m) && lasting t (agreed_after (extend s m))) ≡ asked_in t s
  unfolding any
  agreed-now two t never none = refl
  agreed-now two t (since q rest) none =
      rw (first_more (is 2) rest m, none, two) (and-true (has q.a t))

  shut-now :
      is 2 m ≡ true → (t : ℕ) (s : Since) → agreed_after s ≡ never →
      opened t (agreed_after (extend s m)) ≡ false
  unfolding any_then_none
  shut-now two t never none = refl
  shut-now two t (since q rest) none = rw (first_more (is 2) rest m, none, two)

  pub under-agreed :
      is 1 m ≡ false → is 2 m ≡ true → agreement H ≡ never → (t : ℕ) →
      under_agreed_work t (H then m) ≡ asked_in t (asking H)
  unfolding under_agreed_work
  under-agreed one two none t = rw (asking-on one) (agreed-now two t (asking H) none)

  pub open-agreed :
      is 1 m ≡ false → is 2 m ≡ true → agreement H ≡ never → (t : ℕ) →
      open_to_work t (H then m) ≡ false
  unfolding open_to_work
  open-agreed one two none t =
      rw (asking-on one, shut-now two t (asking H) none) (and-false (under_agreed_work t (H then m)))

  -- the movement that stands: asked for by this message, left by it, or as before
  pub standing-asked : is 5 m ≡ true → standing (H then m) ≡ since m []
  unfolding standing any
  standing-asked five = rw (last_more (is 5) H m, five)

  left-on : leaves m ≡ true → (s : Since) → unless_left (extend s m) ≡ never
  left-on gone never = refl
  left-on gone (since f rest) = rw (any-more leaves rest m, gone, or-true (any leaves rest))

  pub standing-left : is 5 m ≡ false → leaves m ≡ true → standing (H then m) ≡ never
  unfolding standing
  standing-left other gone = rw (last_more (is 5) H m, other) (left-on gone (after_last (is 5) H))

  stays_on : leaves m ≡ false → (s : Since) → unless_left (extend s m) ≡ extend (unless_left s) m
  stays_on here never = refl
  stays_on here (since f rest) =
      rw (any-more leaves rest m, here, or-false (any leaves rest)) (go (any leaves rest))
    where
      go :
          (b : Bool) →
          cond b never (since f (rest then m)) ≡ extend (cond b never (since f rest)) m
      go true = refl
      go false = refl

  pub standing_on : is 5 m ≡ false → leaves m ≡ false → standing (H then m) ≡ extend (standing H) m
  unfolding standing
  standing_on other here = rw (last_more (is 5) H m, other) (stays_on here (after_last (is 5) H))
