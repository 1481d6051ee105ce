-- A body as a piece and what follows it: its size, its entries, and its reading. Over plain lists. Assumes nothing.
use Prim.Native.Nat.{ℕ, ◌+◌, ◌-◌}
use mathlib.Core.Path.{◌≡◌, sym, ◌∙◌}
use mathlib.Core.Bool.{true, false}
use mathlib.Core.List.{List, [], ◌∷◌, ◌++◌, append_assoc, append-nil}
use native.Mathlib.Nat.{add-zero}
use native.Mathlib.Omega.{arith}
use lib.ListN.{length}
use Rattle.paper.specs.Found.{Found, found, and_then}
use Rattle.paper.specs.Modes.{Modes}
use Rattle.paper.specs.Tree.{Blank, Annotation, Concept, Body, done, BodyPiece, blank_piece, element_piece, before}
use Rattle.paper.specs.Grammar.{blank_onto, tabs_onto, annotations_onto, concept_onto, body_onto}
use Rattle.paper.specs.Entries.{annotation_entries, concept_size, body_size, body_count, concept_width, concept_entry, inside_entries, body_entries}
use Rattle.paper.specs.Reading.{is_closing, body_of, piece_of, bounds}
use Rattle.paper.proofs.Tests.{when_true, when_false}
use Rattle.paper.proofs.Fuel.{body_of_lem}
use Rattle.lines.proofs.Lengths.{tabs_long, notes_long}
use Rattle.sheets.specs.Concepts.{piece_size, piece_count, piece_entries}
use Rattle.sheets.proofs.Lengths.{concept_long}

-- how long an element is
element_long : (notes : List Annotation) (tabs : ℕ) (c : Concept) (rest : Blank)
    → length (annotations_onto notes (tabs_onto tabs (concept_onto tabs c (blank_onto rest [])))) ≡ length
    (annotations_onto notes []) + tabs + concept_width tabs c + length (blank_onto rest [])
element_long notes tabs c rest =
    let mark = concept_onto tabs c (blank_onto rest []) in
    omega (arith, notes_long notes (tabs_onto tabs mark), tabs_long tabs mark, concept_long c tabs (blank_onto rest []))

pub before_size : (p : BodyPiece) (inner : Body) → body_size (before p inner) ≡ piece_size p + body_size inner
unfolding concept_size
before_size (blank_piece b) inner = omega arith
before_size (element_piece a rest) inner = omega arith

pub before_count : (p : BodyPiece) (inner : Body) → body_count (before p inner) ≡ piece_count p + body_count inner
unfolding body_count
before_count (blank_piece b) inner = omega arith
before_count (element_piece a rest) inner = omega arith

pub before_entries : (p : BodyPiece) (inner : Body) (parent next at : ℕ)
    → body_entries parent next at (before p inner) ≡ piece_entries parent next at p ++ body_entries parent (next + piece_size p)
    (at + length (body_onto (before p done) [])) inner
unfolding concept_size inside_entries concept_onto
before_entries (blank_piece b) inner parent next at = rw (add-zero next)
before_entries (element_piece a rest) inner parent next at =
    let start = at + length (annotations_onto a.notes []) + a.tabs in
    let own = annotation_entries parent at a.notes in
    let entry = concept_entry parent start a.tabs a.concept in
    let inside = inside_entries (next + length a.notes) start a.tabs a.concept in
    let place : start + concept_width a.tabs a.concept + length (blank_onto rest []) ≡ at + length (body_onto (before (element_piece a rest) done) []) =
    omega (arith, element_long a.notes a.tabs a.concept rest) in
    let size : next + length a.notes + concept_size a.concept ≡ next + piece_size (element_piece a rest) = omega arith in
    let others = body_entries parent (next + piece_size (element_piece a rest)) (at + length (body_onto (before (element_piece a rest) done) [])) inner in
    rw (place, size, append-nil) (sym (append_assoc own (entry ∷ inside) others))

-- what follows a piece
abbrev pub onward : Modes → ℕ → ℕ → BodyPiece → List ℕ → Found Body
onward m deeper room p left = and_then (body_of m bounds deeper (room - piece_size p) left) (λ inner end. found (before p inner) end)

-- the line of a closing marker ends a body, and any other goes on with a piece
module _ (m : Modes) (deeper room : ℕ) (s : List ℕ) where
  pub body_over : is_closing s ≡ true → body_of m bounds deeper room s ≡ found done s
  body_over e = body_of_lem m bounds deeper room s ∙ when_true (is_closing s) _ _ e

  pub body_on : is_closing s ≡ false → body_of m bounds deeper room s ≡ and_then (piece_of m bounds deeper room s) (onward m deeper room)
  body_on e = body_of_lem m bounds deeper room s ∙ when_false (is_closing s) _ _ e
