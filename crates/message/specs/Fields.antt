-- The field rules of a message: RECORD-2 to RECORD-4 and the table of fields after them
-- (docs/RULES.md). One number, `field_number`, says what a message gets for its own fields; reader,
-- writer and desk go by it.
use Rattle.std.specs.Prelude.{Bool, true, false, cond, not, ◌&&◌, ◌||◌, List, [], ◌∷◌, ℕ, eqb, leb, get_or}
use Rattle.message.specs.declared.Message.{Message}

-- the values that a detail may have
pub record Span : Type 0 where
  pub least : ℕ
  pub most : ℕ

infix 40 ◌to◌
abbrev pub ◌to◌ : ℕ → ℕ → Span
l to m = record { least = l; most = m }

abbrev pub in_span : Span → ℕ → Bool
in_span s d = leb s.least d && leb d s.most

-- What a kind names of the sets and details; the details from d0 on. Every kind names zone, time
-- and id.
pub record Named : Type 0 where
  pub a : Bool
  pub b : Bool
  pub spans : List Span

abbrev pub nothing : Named
nothing = record { a = false; b = false; spans = [] }

-- RECORD-3, kind 6: "d0 turnout 0-63; d1 declaration 1-9; d2 0 normal, 1 reverse; d3 0 no clamp, 1
-- clamp, 2 attended; d4 1 voice, 2 written"; M-101: "d5 becomes a field of 0 or 1: 1 says the
-- declaration covers both ends", now the whole group
abbrev pub clearance_spans : List Span
clearance_spans = (0 to 63) ∷ (1 to 9) ∷ (0 to 1) ∷ (0 to 2) ∷ (1 to 2) ∷ (0 to 1) ∷ []

-- RECORD-3, kind 13: "d0 the turnout (0 to 63), d1 is 1 for Tcl and 2 for Es"
abbrev pub key_spans : List Span
key_spans = (0 to 63) ∷ (1 to 2) ∷ []

-- RECORD-3, the table of fields, by kind; there is no kind 0
abbrev pub table : List Named
table =
    nothing
    -- 1 work asked: "a; d0 1 form M.45, 2 recorded verbal"
    ∷ record { a = true; b = false; spans = (1 to 2) ∷ [] }
    -- 2 agreed
    ∷ nothing
    -- 3 withdrawn
    ∷ nothing
    -- 4 detection off: "a lost, b portable device"
    ∷ record { a = true; b = true; spans = [] }
    -- 5 movement asked: "d0 route 0-63"
    ∷ record { a = false; b = false; spans = (0 to 63) ∷ [] }
    -- 6 clearance
    ∷ record { a = false; b = false; spans = clearance_spans }
    -- 7 ordered: "d0 1 clear, 2 danger"
    ∷ record { a = false; b = false; spans = (1 to 2) ∷ [] }
    -- 8 passed
    ∷ nothing
    -- 9 cancelled
    ∷ nothing
    -- 10 part restored: "a"
    ∷ record { a = true; b = false; spans = [] }
    -- 11 all restored
    ∷ nothing
    -- 12 recorder: "d0 0 out, 1 working"
    ∷ record { a = false; b = false; spans = (0 to 1) ∷ [] }
    -- 13 key used
    ∷ record { a = false; b = false; spans = key_spans }
    ∷ []

unfoldable pub named : ℕ → Named
named kind = get_or table kind nothing

-- RECORD-3: "Fields not named below are 0": a set that is not named is empty; a set that is named
-- may be any
abbrev pub set_kept : Bool → ℕ → Bool
set_kept is_named s = is_named || eqb s 0

-- RECORD-3: each named detail is within its span, each other detail is 0
abbrev pub details_kept : List Span → List ℕ → Bool
details_kept spans [] = true
details_kept [] (d ∷ ds) = eqb d 0 && details_kept [] ds
details_kept (s ∷ spans) (d ∷ ds) = in_span s d && details_kept spans ds

abbrev pub details : Message → List ℕ
details m = m.d0 ∷ m.d1 ∷ m.d2 ∷ m.d3 ∷ m.d4 ∷ m.d5 ∷ []

abbrev pub named_kept : Named → Message → Bool
named_kept n m = set_kept n.a m.a && set_kept n.b m.b && details_kept n.spans (details m)

-- RECORD-2: "Id is a form number (kinds 1-4, 10, 11) or a train (5-9), not 0; for 12 it is 0";
-- M-105, of kind 13: "id is the train"
abbrev pub id_kept : ℕ → ℕ → Bool
id_kept kind id = cond (eqb kind 12) (eqb id 0) (not (eqb id 0))

unfoldable pub fields_kept : Message → Bool
fields_kept m = id_kept m.kind m.id && named_kept (named m.kind) m

-- RECORD-4: 11, "kind not 1-12", and M-105: "Kinds now run to 13"
abbrev pub is_kind : ℕ → Bool
is_kind kind = leb 1 kind && leb kind 13

-- RECORD-4, HEAR-1: 11 for a kind that is none, then 13 for a field that breaks its rule; 0 for a
-- message that a record carries
unfoldable pub field_number : Message → ℕ
field_number m = cond (is_kind m.kind) (cond (fields_kept m) 0 13) 11
