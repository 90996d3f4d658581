-- The messages that cases by hand are made of, all of zone 0, and the answers.
use Rattle.std.specs.Prelude.{ℕ}
use Rattle.message.specs.declared.Message.{Message}
use Rattle.zone.specs.declared.Regime.{Regime}
use Rattle.desk.specs.Questions.{MovementAnswer}
use Rattle.history.specs.Lists.{Reply}

-- a message of zone 0 that names no set and no detail
abbrev pub plain : ℕ → ℕ → ℕ → Message
plain kind time id = record {
  kind = kind;
  zone = 0;
  time = time;
  id = id;
  a = 0;
  b = 0;
  d0 = 0;
  d1 = 0;
  d2 = 0;
  d3 = 0;
  d4 = 0;
  d5 = 0;
}

-- with the sets a and b and the detail d0
abbrev pub naming : ℕ → ℕ → ℕ → ℕ → ℕ → ℕ → Message
naming kind time id a b d0 = record {
  kind = kind;
  zone = 0;
  time = time;
  id = id;
  a = a;
  b = b;
  d0 = d0;
  d1 = 0;
  d2 = 0;
  d3 = 0;
  d4 = 0;
  d5 = 0;
}

-- a clearance: turnout, declaration, position, clamp, medium, and 1 where it covers the whole group
abbrev pub clearance : ℕ → ℕ → ℕ → ℕ → ℕ → ℕ → ℕ → ℕ → Message
clearance time train turnout declaration position clamp medium covers = record {
  kind = 6;
  zone = 0;
  time = time;
  id = train;
  a = 0;
  b = 0;
  d0 = turnout;
  d1 = declaration;
  d2 = position;
  d3 = clamp;
  d4 = medium;
  d5 = covers;
}

-- a clearance in the normal position that does not cover the whole group
abbrev pub clearing : ℕ → ℕ → ℕ → ℕ → ℕ → ℕ → Message
clearing time train turnout declaration clamp medium =
    clearance time train turnout declaration 0 clamp medium 0

-- a clearance in the normal position, without a clamp, by voice
abbrev pub declaring : ℕ → ℕ → ℕ → ℕ → ℕ → Message
declaring time train turnout declaration both =
    clearance time train turnout declaration 0 0 1 both

-- a release key: turnout, and 1 Tcl or 2 Es
abbrev pub keying : ℕ → ℕ → ℕ → ℕ → Message
keying time train turnout key = record {
  kind = 13;
  zone = 0;
  time = time;
  id = train;
  a = 0;
  b = 0;
  d0 = turnout;
  d1 = key;
  d2 = 0;
  d3 = 0;
  d4 = 0;
  d5 = 0;
}

-- an answer to a message; and one to the movement question, where it is not refused
abbrev pub reply : ℕ → ℕ → Reply
reply code minutes = record { code = code; minutes = minutes }

abbrev pub movement_told : Regime → ℕ → ℕ → MovementAnswer
movement_told regime lowest count =
    record { code = 0; regime = regime; lowest = lowest; count = count }
