-- Concepts and the bodies of blocks: what reading each at a place answers and writes.
-- Document 01, "The grammar", Lines, Markers and Content, and "Entries".
use Rattle.std.specs.Prelude.{ℕ, ◌+◌, ◌-◌, ◌≤◌, ◌<◌, ◌≡◌, true, false, Result, List, [], ◌∷◌, ◌++◌, length, drop, eqb}
use Rattle.paper.specs.declared.Refused.{Refused}
use Rattle.paper.specs.Found.{Found, found, and_then}
use Rattle.paper.specs.Bytes.{behind}
use Rattle.paper.specs.Modes.{Modes}
use Rattle.paper.specs.Limits.{sheet_limit}
use Rattle.paper.specs.Tree.{Marker, Concept, self_closed, children, content, Body, done, Annotated, BodyPiece, before}
use Rattle.paper.specs.Grammar.{blank_onto, annotations_onto}
use Rattle.paper.specs.Entries.{Entry, annotation_entries, concept_size, concept_entry, inside_entries, body_size, body_count, body_entries}
use Rattle.paper.specs.Reading.{is_tab, line_rest, content_of, concept_of, block_of, body_of, annotated_of, piece_of, bounds}
use Rattle.modes.specs.Table.{modes_of}
use Rattle.entries.specs.Laid.{lay, Fits}
use Rattle.entries.specs.declared.Slot.{Slot}
use Rattle.lines.specs.Parts.{Seen, seen, seen_of, Makes, In, part, content_entries}
use Rattle.lines.specs.declared.part.Part.{Part}

-- a place of a sheet that is read, and a slot of the cells
pub record Ready (s : List ℕ) (at : ℕ) (cells : List ℕ) (slot : Slot) : Type 0 where
  pub in_sheet : In s at
  pub fits : Fits cells slot

-- ---- a Concept

-- its own entry, whose number is `own`, and those that follow it
abbrev pub whole_concept : ℕ → ℕ → ℕ → ℕ → Concept → List Entry
whole_concept parent own at tabs c = concept_entry parent at tabs c ∷ inside_entries own at tabs c

abbrev pub ReadsConcept : List ℕ → List ℕ → ℕ → ℕ → ℕ → List ℕ → Slot → Result Part Refused → List ℕ → Type 0
ReadsConcept table s at tabs deeper cells slot r after =
    Makes concept_size (λ c. 1) (whole_concept slot.parent slot.next at tabs) s cells slot.next
    (concept_of (modes_of table) bounds deeper (slot.room - slot.next) tabs (drop at s)) r after

-- what a Concept is read as whose body was read so: it counts the Concept too, and its entry stands before those of its traits and its body
abbrev pub ended_by : Part → ℕ → Part
ended_by body more = record { end = body.end; made = 1 + more + body.made; own = 1 }

abbrev pub cells_ended : List ℕ → Slot → Part → ℕ → ℕ → ℕ → ℕ → List ℕ
cells_ended cells slot body form at to traits =
    lay cells slot.next
    (record {
      kind = 1;
      form = form;
      parent = slot.parent;
      count = traits + body.own;
      name_start = at + 1;
      name_end = to;
      start = at;
      end = body.end;
    }
    ∷ [])

-- it ends in a sheet, and there is room for its entry
pub record Ends (cells : List ℕ) (slot : Slot) (body : Part) (at to made own : ℕ) : Type 0 where
  pub fits : Fits cells slot
  pub room : slot.next + 1 + made + body.made ≤ slot.room
  pub traits : own ≤ made
  pub count : body.own ≤ body.made
  pub short : body.end ≤ sheet_limit
  pub named : (at < to) × (to ≤ sheet_limit)

-- ---- what follows an opening marker

-- by the form that the marker gives: nothing, children or Content
unfoldable pub inside_of : ℕ → Modes → ℕ → ℕ → ℕ → Marker → List ℕ → Found Concept
inside_of form m deeper room tabs k s =
    elim (eqb form 1) [
      | true ↦ found (self_closed k) s
      | false ↦ elim (eqb form 2) [ true ↦ block_of m bounds deeper room k s | false ↦ content_of tabs room k s ]
    ]

-- how many entries follow those of a Concept's traits, and how many of them name it as parent
abbrev pub inside_size : Concept → ℕ
inside_size (self_closed k) = 0
inside_size (children k rest body back) = body_size body
inside_size (content k rest lines) = 1

abbrev pub inside_count : Concept → ℕ
inside_count (self_closed k) = 0
inside_count (children k rest body back) = body_count body
inside_count (content k rest lines) = 1

-- these entries, where the opening marker ends at `at`
abbrev pub body_of_concept : ℕ → ℕ → ℕ → ℕ → Concept → List Entry
body_of_concept parent next tabs at (self_closed k) = []
body_of_concept parent next tabs at (children k rest body back) = body_entries parent next (at + length (blank_onto rest [])) body
body_of_concept parent next tabs at (content k rest lines) = content_entries parent tabs at (content k rest lines)

-- the Concept is found as x
abbrev pub InsideAt : List ℕ → ℕ → ℕ → List ℕ → Slot → Found Concept → Result Part Refused → List ℕ → Type 0
InsideAt s at tabs cells slot x r after = Makes inside_size inside_count (body_of_concept slot.parent slot.next tabs at) s cells slot.next x r after

-- whatever the marker holds beside the name that stands from `from` to `to`
abbrev pub ReadsInside : List ℕ → List ℕ → ℕ → ℕ → ℕ → ℕ → ℕ → ℕ → List ℕ → Slot → Result Part Refused → List ℕ → Type 0
ReadsInside table s at form tabs from to deeper cells slot r after =
    (k : Marker) → k.name ≡ part s from to
    → InsideAt s at tabs cells slot (inside_of form (modes_of table) deeper (slot.room - slot.next) tabs k (drop at s)) r after

abbrev pub ReadsBlock : List ℕ → List ℕ → ℕ → ℕ → ℕ → ℕ → List ℕ → Slot → Result Part Refused → List ℕ → Type 0
ReadsBlock table s at from to deeper cells slot r after =
    (k : Marker) (tabs : ℕ) → k.name ≡ part s from to
    → InsideAt s at tabs cells slot (block_of (modes_of table) bounds deeper (slot.room - slot.next) k (drop at s)) r after

-- ---- a Concept with its annotations

abbrev pub annotated_size : Annotated → ℕ
annotated_size a = length a.notes + concept_size a.concept

abbrev pub annotated_count : Annotated → ℕ
annotated_count a = length a.notes + 1

abbrev pub annotated_entries : ℕ → ℕ → ℕ → Annotated → List Entry
annotated_entries parent next at a =
    annotation_entries parent at a.notes
    ++ whole_concept parent (next + length a.notes) (at + length (annotations_onto a.notes []) + a.tabs) a.tabs a.concept

abbrev pub ReadsAnnotated : List ℕ → List ℕ → ℕ → ℕ → List ℕ → Slot → Result Part Refused → List ℕ → Type 0
ReadsAnnotated table s at deeper cells slot r after =
    Makes annotated_size annotated_count (annotated_entries slot.parent slot.next at) s cells slot.next
    (annotated_of (modes_of table) bounds deeper (slot.room - slot.next) (drop at s)) r after

-- ---- a body, piece by piece

-- what was read, with the rest of its line
abbrev pub line_ended : List ℕ → Part → Seen
line_ended s p = seen_of (λ rest. p.made) (λ rest. p.own) s (line_rest (drop p.end s))

-- a body up to the mark behind the tabs of its closing line
abbrev pub up_to_mark : Found Body → Found Body
up_to_mark x = and_then x (λ b line. found b (behind is_tab line))

abbrev pub ReadsChildren : List ℕ → List ℕ → ℕ → ℕ → List ℕ → Slot → Result Part Refused → List ℕ → Type 0
ReadsChildren table s at deeper cells slot r after =
    Makes body_size body_count (body_entries slot.parent slot.next at) s cells slot.next
    (up_to_mark (body_of (modes_of table) bounds deeper (slot.room - slot.next) (drop at s))) r after

-- a piece counts as a body of its own
abbrev pub piece_size : BodyPiece → ℕ
piece_size p = body_size (before p done)

abbrev pub piece_count : BodyPiece → ℕ
piece_count p = body_count (before p done)

abbrev pub piece_entries : ℕ → ℕ → ℕ → BodyPiece → List Entry
piece_entries parent next at p = body_entries parent next at (before p done)

abbrev pub ReadsPiece : List ℕ → List ℕ → ℕ → ℕ → List ℕ → Slot → Result Part Refused → List ℕ → Type 0
ReadsPiece table s at deeper cells slot r after =
    Makes piece_size piece_count (piece_entries slot.parent slot.next at) s cells slot.next
    (piece_of (modes_of table) bounds deeper (slot.room - slot.next) (drop at s)) r after
