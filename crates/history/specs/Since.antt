-- A message of a list and what follows it: how HIST-2 to HIST-8 (docs/RULES.md) speak of a list of
-- messages, oldest first.
use Rattle.std.specs.Prelude.{Bool, false, cond, not, ◌&&◌, ◌||◌, List, [], ◌∷◌}
use Rattle.message.specs.declared.Message.{Message}

-- no such message, or a message and those after it
pub data Since : Type 0 where
  never : Since
  since : Message → List Message → Since

-- what was found further on, if anything, else here
abbrev pub or_else : Since → Since → Since
or_else never other = other
or_else (since m rest) other = since m rest

-- the last message that passes the test, and those after it
unfoldable pub after_last : (Message → Bool) → List Message → Since
after_last p [] = never
after_last p (m ∷ ms) = or_else (after_last p ms) (cond (p m) (since m ms) never)

-- the first message that passes the test, and those after it
unfoldable pub after_first : (Message → Bool) → List Message → Since
after_first p [] = never
after_first p (m ∷ ms) = cond (p m) (since m ms) (after_first p ms)

-- some message passes the test
unfoldable pub any : (Message → Bool) → List Message → Bool
any p [] = false
any p (m ∷ ms) = p m || any p ms

-- some message passes p, and none after it passes q
unfoldable pub any_then_none : (Message → Bool) → (Message → Bool) → List Message → Bool
any_then_none p q [] = false
any_then_none p q (m ∷ ms) = p m && not (any q ms) || any_then_none p q ms
