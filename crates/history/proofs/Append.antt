-- One more message at the end of a list: what the searches of specs/Since.antt then find.
use mathlib.Core.Bool.{Bool, true, false, cond, not, ◌&&◌, ◌||◌, and-true, and-false, or-true}
use mathlib.Core.Bool.{or-false, or_assoc, or_comm}
use mathlib.Core.List.{List, [], ◌∷◌, ◌++◌}
use mathlib.Core.Path.{◌≡◌, refl, sym, ap, ◌∙◌}
use Rattle.message.specs.declared.Message.{Message}
use Rattle.history.specs.Since.{Since, never, since, or_else, after_last, after_first, any}
use Rattle.history.specs.Since.{any_then_none}

-- the list with one more message at its end
infixl 50 ◌then◌
abbrev pub ◌then◌ : List Message → Message → List Message
H then m = H ++ (m ∷ [])

-- what was found, with one more message after it
abbrev pub extend : Since → Message → Since
extend never m = never
extend (since x rest) m = since x (rest then m)

pub or_else-never : (s : Since) → or_else s never ≡ s
or_else-never never = refl
or_else-never (since x rest) = refl

pub last_more :
    (p : Message → Bool) (H : List Message) (m : Message) →
    after_last p (H then m) ≡ cond (p m) (since m []) (extend (after_last p H) m)
unfolding after_last
last_more p [] m = refl
last_more p (x ∷ H) m =
    ap (λ (s : Since). or_else s (cond (p x) (since x (H then m)) never)) (last_more p H m)
    ∙ found (p m) (after_last p H) (p x)
  where
    found : (here : Bool) (s : Since) (first : Bool)
        → or_else (cond here (since m []) (extend s m)) (cond first (since x (H then m)) never)
        ≡ cond here (since m []) (extend (or_else s (cond first (since x H) never)) m)
    found true s first = refl
    found false (since y rest) first = refl
    found false never true = refl
    found false never false = refl

pub first_more :
    (p : Message → Bool) (H : List Message) (m : Message) →
    after_first p (H then m) ≡ or_else (extend (after_first p H) m) (cond (p m) (since m []) never)
unfolding after_first
first_more p [] m = refl
first_more p (x ∷ H) m = found (p x) (first_more p H m)
  where
    found :
        (first : Bool) →
        after_first p (H then m) ≡ or_else (extend (after_first p H) m) (cond (p m) (since m []) never)
        → cond first (since x (H then m)) (after_first p (H then m))
        ≡ or_else (extend (cond first (since x H) (after_first p H)) m)
        (cond (p m) (since m []) never)
    found true later = refl
    found false later = later

pub any-more :
    (p : Message → Bool) (H : List Message) (m : Message) → any p (H then m) ≡ (any p H || p m)
unfolding any
any-more p [] m = or-false (p m)
any-more p (x ∷ H) m =
    ap (λ (b : Bool). p x || b) (any-more p H m) ∙ sym (or_assoc (p x) (any p H) (p m))

-- one more message that does not pass the test
pub any-kept :
    (p : Message → Bool) (H : List Message) (m : Message) → p m ≡ false →
    any p (H then m) ≡ any p H
any-kept p H m other = any-more p H m ∙ rw other (or-false (any p H))

pub then-more :
    (p q : Message → Bool) (H : List Message) (m : Message) →
    any_then_none p q (H then m) ≡ (p m || any_then_none p q H && not (q m))
unfolding any_then_none any
then-more p q [] m = rw (and-true, or-false)
then-more p q (x ∷ H) m =
    rw (any-more q H m, then-more p q H m) (mixed (p x) (any q H) (p m) (any_then_none p q H) (q m))
  where
    mixed :
        (x a here old later : Bool) →
        (x && not (a || later) || (here || old && not later))
        ≡ (here || (x && not a || old) && not later)
    mixed x a here old true =
        rw (or-true a, and-false x, and-false old, and-false (x && not a || old))
    mixed x a here old false =
        rw (
          or-false a,
          and-true old,
          and-true (x && not a || old),
          ← or_assoc (x && not a) here old,
          or_comm (x && not a) here,
          or_assoc here (x && not a) old,
        )
