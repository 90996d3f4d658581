-- Cases of the history's words, HIST-2 to HIST-8 (docs/RULES.md), by hand: the messages that
-- station K's desk accepts, and a route with a turnout in reverse.
use Rattle.std.specs.Prelude.{Bool, true, false, List, [], ◌∷◌, ◌++◌, map, ◌≡◌, ℕ, take, replicate}
use Rattle.message.specs.declared.Message.{Message}
use Rattle.station.specs.declared.Station.{Station}
use Rattle.station.specs.Station.{empty_route, empty_turnout}
use Rattle.history.specs.Since.{never, since, any}
use Rattle.history.specs.History.{under_agreed_work, open_to_work, standing, cleared, of_its_route}
use Rattle.history.specs.History.{clears_well, key_for, allows_clear, lacks}
use Rattle.history.specs.CaseMessages.{plain, naming, clearance, clearing, declaring, keying}

-- station K's records 1, 2, 3, 4, 6, 8, 10 and 11, which are accepted
abbrev pub accepted_k : List Message
accepted_k =
    naming 1 0 7 3 0 1
    ∷ plain 2 90 7
    ∷ naming 4 100 7 3 0 0
    ∷ naming 5 110 512 0 0 0
    ∷ clearing 115 512 0 3 0 1
    ∷ naming 7 117 512 0 0 2
    ∷ plain 8 130 512
    ∷ plain 11 209 7
    ∷ []

-- those of them up to records 3, 6, 8 and 10
abbrev pub up_to3 : List Message
up_to3 = take 3 accepted_k

abbrev pub up_to6 : List Message
up_to6 = take 5 accepted_k

abbrev pub up_to8 : List Message
up_to8 = take 6 accepted_k

abbrev pub up_to10 : List Message
up_to10 = take 7 accepted_k

-- a station of 3 turnouts, 0 and 1 a group and 2 alone, and two routes over {0} with flank {2}:
-- 0 with none reverse, 1 with turnout 2 reverse. The words look at counts, routes and groups alone
abbrev pub two_routes : Station
two_routes = record {
  turnouts = 3;
  routes = 2;
  zones = 1;
  turnout =
      record { zone = 0; group = 0; drive = 0 }
      ∷ record { zone = 0; group = 0; drive = 0 }
      ∷ record { zone = 0; group = 255; drive = 1 }
      ∷ replicate 61 empty_turnout;
  route =
      record { zone = 0; over = 1; flank = 4; exits = 0; reverse = 0 }
      ∷ record { zone = 0; over = 1; flank = 4; exits = 0; reverse = 4 }
      ∷ replicate 62 empty_route;
}

-- a movement of train 512 over a route
abbrev pub asked : ℕ → Message
asked route = naming 5 110 512 0 0 route

-- a test at turnouts 0, 1 and 2
abbrev at012 : (ℕ → Bool) → List Bool
at012 test = map test (0 ∷ 1 ∷ 2 ∷ [])

-- whether a clearance counts for turnout t in the movement over a route
abbrev counts : ℕ → ℕ → Message → Bool
counts route t m = any (clears_well two_routes (asked route) t) (m ∷ [])

-- whether a key counts for turnout t in the movement over route 0
abbrev key_counts : Message → ℕ → Bool
key_counts m t = any (key_for (asked 0) t) (m ∷ [])

-- {2} agreed under verbal and its detection off, a movement over route 0, and a key on turnout 2
abbrev pub keyed2 : List Message
keyed2 =
    naming 1 0 9 4 0 2
    ∷ plain 2 10 9
    ∷ naming 4 20 9 4 0 0
    ∷ asked 0
    ∷ keying 120 512 2 1
    ∷ []

pub record WordCases : Type 0 where
  -- each word is seen true and seen false
  pub under-1 : at012 (λ t. under_agreed_work t (take 1 accepted_k)) ≡ false ∷ false ∷ false ∷ []
  pub under-3 : at012 (λ t. under_agreed_work t up_to3) ≡ true ∷ true ∷ false ∷ []
  pub under-11 : at012 (λ t. under_agreed_work t accepted_k) ≡ false ∷ false ∷ false ∷ []
  pub part :
      at012 (λ t. under_agreed_work t (naming 1 0 9 7 0 2 ∷ plain 2 1 9 ∷ naming 10 2 9 4 0 0 ∷ []))
      ≡ true ∷ true ∷ false ∷ []
  pub open-3 : at012 (λ t. open_to_work t up_to3) ≡ true ∷ true ∷ false ∷ []
  pub open-6 : at012 (λ t. open_to_work t up_to6) ≡ false ∷ true ∷ false ∷ []
  pub open-10 : at012 (λ t. open_to_work t up_to10) ≡ false ∷ true ∷ false ∷ []
  pub device :
      at012 (λ t. open_to_work t (naming 1 0 7 3 0 1 ∷ plain 2 90 7 ∷ naming 4 100 7 1 2 0 ∷ []))
      ≡ true ∷ true ∷ false ∷ []
  pub standing-3 : standing up_to3 ≡ never
  pub standing-6 : standing up_to6 ≡ since (asked 0) (clearing 115 512 0 3 0 1 ∷ [])
  pub standing-8 :
      standing up_to8
      ≡ since (asked 0) (clearing 115 512 0 3 0 1 ∷ naming 7 117 512 0 0 2 ∷ [])
  pub standing-10 : standing up_to10 ≡ never
  pub cancelled : standing (asked 0 ∷ plain 9 120 512 ∷ []) ≡ never
  pub cleared-3 : cleared 0 up_to3 ≡ false
  pub cleared-6 : at012 (λ t. cleared t up_to6) ≡ true ∷ false ∷ false ∷ []
  pub cleared-10 : cleared 0 up_to10 ≡ false
  -- no movement stands: a 6 without a 5 clears nothing
  pub cleared-alone : cleared 0 (clearing 115 512 0 3 0 1 ∷ []) ≡ false
  -- the clearance of one train is none for the next; a new 4 opens again what a 6 shut
  pub next-train :
      at012 (λ t. cleared t (up_to10 ++ (naming 5 140 600 0 0 0 ∷ [])))
      ≡ false ∷ false ∷ false ∷ []
  pub next-stands :
      standing (up_to10 ++ (naming 5 140 600 0 0 0 ∷ []))
      ≡ since (naming 5 140 600 0 0 0) []
  pub opened-again :
      at012 (λ t. open_to_work t (up_to10 ++ (naming 4 140 7 1 0 0 ∷ [])))
      ≡ true ∷ true ∷ false ∷ []
  -- the last 1 counts, and only from its own 2 on; what came before it does not
  pub asked-again :
      at012 (λ t. under_agreed_work t (accepted_k ++ (naming 1 300 8 4 0 2 ∷ [])))
      ≡ false ∷ false ∷ false ∷ []
  pub agreed-again :
      at012 (λ t. under_agreed_work t (accepted_k ++ (naming 1 300 8 4 0 2 ∷ plain 2 301 8 ∷ [])))
      ≡ false ∷ false ∷ true ∷ []
  pub not-open-again :
      at012 (λ t. open_to_work t (accepted_k ++ (naming 1 300 8 7 0 2 ∷ plain 2 301 8 ∷ [])))
      ≡ false ∷ false ∷ false ∷ []
  -- a movement between the 2 and the 4 changes nothing of it
  pub open-later :
      at012 (λ t. open_to_work t
      (naming 1 0 7 3 0 1 ∷ plain 2 90 7 ∷ asked 0 ∷ naming 4 120 7 3 0 0 ∷ []))
      ≡ true ∷ true ∷ false ∷ []
  -- route 0 names turnouts 0 and 2
  pub of-route : at012 (of_its_route two_routes (asked 0)) ≡ true ∷ false ∷ true ∷ []
  -- declaration 1 or 2 counts and 3 does not; nor does another train, another position or another
  -- turnout
  pub well : counts 0 0 (declaring 115 512 0 1 1) ≡ true
  pub well-2 : counts 0 0 (declaring 115 512 0 2 1) ≡ true
  pub declaration-3 : counts 0 0 (declaring 115 512 0 3 1) ≡ false
  pub other-train : counts 0 0 (declaring 115 513 0 1 1) ≡ false
  pub other-position : counts 0 0 (clearance 115 512 0 1 1 0 1 1) ≡ false
  pub other-turnout : counts 0 0 (declaring 115 512 2 1 1) ≡ false
  pub reverse : counts 1 2 (clearance 115 512 2 1 1 0 1 0) ≡ true
  pub not-reverse : counts 1 2 (declaring 115 512 2 1 0) ≡ false
  -- on turnout 0, which is of a group, it counts only where it covers the whole group; turnout 2 is alone
  pub covers_one : counts 0 0 (declaring 115 512 0 1 0) ≡ false
  pub covers-one-2 : counts 0 0 (declaring 115 512 0 2 0) ≡ false
  pub alone : counts 0 2 (declaring 115 512 2 1 0) ≡ true
  -- turnout 0 lacks a clearance until it has one
  pub lacks-4 : at012 (lacks two_routes (take 4 accepted_k) (asked 0) []) ≡ true ∷ false ∷ false ∷ []
  pub lacks-6 :
      at012 (lacks two_routes up_to6 (asked 0) (clearing 115 512 0 3 0 1 ∷ []))
      ≡ false ∷ false ∷ false ∷ []
  -- a key counts for its train and its turnout alone, whichever key it is
  pub key-Tcl : at012 (key_counts (keying 120 512 2 1)) ≡ false ∷ false ∷ true ∷ []
  pub key-Es : at012 (key_counts (keying 120 512 2 2)) ≡ false ∷ false ∷ true ∷ []
  pub key-other-train : at012 (key_counts (keying 120 513 2 1)) ≡ false ∷ false ∷ false ∷ []
  pub no_key : at012 (key_counts (declaring 120 512 2 1 0)) ≡ false ∷ false ∷ false ∷ []
  -- a good clearance or a key allows clear
  pub allows-key : allows_clear two_routes (asked 0) (keying 120 512 2 1 ∷ []) 2 ≡ true
  pub allows-cleared : allows_clear two_routes (asked 0) (declaring 120 512 2 1 0 ∷ []) 2 ≡ true
  pub allows-not : allows_clear two_routes (asked 0) (declaring 120 512 2 3 0 ∷ []) 2 ≡ false
  -- turnout 2 lacks a clearance until it has a key; with it, it is open to work and not cleared
  pub lacks-no-key :
      at012 (lacks two_routes (take 4 keyed2) (asked 0) [])
      ≡ false ∷ false ∷ true ∷ []
  pub lacks-with-key :
      at012 (lacks two_routes keyed2 (asked 0) (keying 120 512 2 1 ∷ []))
      ≡ false ∷ false ∷ false ∷ []
  pub keyed-open : at012 (λ t. open_to_work t keyed2) ≡ false ∷ false ∷ true ∷ []
  pub keyed-not-cleared : at012 (λ t. cleared t keyed2) ≡ false ∷ false ∷ false ∷ []
  -- the key of one train is none for the next
  pub keyed-passed :
      standing (keyed2 ++ (plain 8 130 512 ∷ naming 5 140 600 0 0 0 ∷ []))
      ≡ since (naming 5 140 600 0 0 0) []
