-- What a tree covers is not shorter than what follows it. Assumes nothing.
use Prim.Native.Nat.{ℕ, suc, ◌+◌, ◌≤◌, ◌<◌}
use mathlib.Core.Path.{ap}
use mathlib.Core.List.{List, [], ◌∷◌, ◌++◌}
use native.Mathlib.Omega.{arith}
use lib.ListN.{length, replicate, length-append}
use Rattle.paper.specs.Bytes.{byte, tab}
use Rattle.paper.specs.Values.{Value, value_onto, spelling}
use Rattle.paper.specs.Tree.{LineEnd, LF, CRLF, Blank, Trait, Marker, Annotation, Line, blank, text, Ending, block, self, Concept, self_closed, children, content}
use Rattle.paper.specs.Tree.{Body, done, blank_line, element}
use Rattle.paper.specs.Grammar.{line_end_onto, blank_onto, tabs_onto, annotations_onto, traits_onto, marker_onto, ending_onto, closing_onto, lines_onto, concept_onto}
use Rattle.paper.specs.Grammar.{body_onto}
use Rattle.paper.proofs.ReadValues.{value_append}

-- in front of a list
pub append_wide : (w next : List ℕ) → length next ≤ length (w ++ next)
append_wide w next = omega (arith, length-append w next)

pub tabs_wide : (n : ℕ) (next : List ℕ) → length next ≤ length (tabs_onto n next)
tabs_wide n next = append_wide (replicate n tab) next

end_wide : (e : LineEnd) (next : List ℕ) → length next < length (line_end_onto e next)
end_wide LF next = omega arith
end_wide CRLF next = omega arith

pub blank_wide : (b : Blank) (next : List ℕ) → length next < length (blank_onto b next)
blank_wide b next = omega (arith, append_wide b.blanks (line_end_onto b.end next), end_wide b.end next)

pub annotations_wide : (notes : List Annotation) (next : List ℕ) → length next ≤ length (annotations_onto notes next)
unfolding annotations_onto
annotations_wide [] next = omega arith
annotations_wide (a ∷ notes) next =
    let rest = annotations_onto notes next in
    omega (
      arith,
      annotations_wide notes next,
      blank_wide a.rest rest,
      append_wide a.text (byte "]" ∷ blank_onto a.rest rest),
      tabs_wide a.tabs (byte "[" ∷ (a.text ++ (byte "]" ∷ blank_onto a.rest rest))),
    )

value_wide : (v : Value) (next : List ℕ) → length next ≤ length (value_onto v next)
value_wide v next = omega (arith, ap length (value_append v next), length-append (spelling v) next)

pub traits_wide : (ts : List Trait) (next : List ℕ) → length next ≤ length (traits_onto ts next)
unfolding traits_onto
traits_wide [] next = omega arith
traits_wide (t ∷ ts) next =
    let rest = value_onto t.value (traits_onto ts next) in
    omega (
      arith,
      traits_wide ts next,
      value_wide t.value (traits_onto ts next),
      append_wide t.name (byte "=" ∷ rest),
      append_wide t.white (t.name ++ (byte "=" ∷ rest)),
    )

pub ending_wide : (e : Ending) (next : List ℕ) → length next < length (ending_onto e next)
ending_wide block next = omega arith
ending_wide self next = omega arith

-- "<", the name and the ending are three bytes at least
pub marker_wide : (k : Marker) (e : Ending) (next : List ℕ) → length next + 1 + length k.name < length (marker_onto k (ending_onto e next))
marker_wide k e next =
    let rest = k.white ++ ending_onto e next in
    omega (arith, ending_wide e next, append_wide k.white (ending_onto e next), traits_wide k.traits rest, length-append k.name (traits_onto k.traits rest))

pub closing_wide : (w next : List ℕ) → length next < length (closing_onto w next)
closing_wide w next = omega (arith, append_wide w (byte ">" ∷ next))

lines_wide : (tabs : ℕ) (lines : List Line) (next : List ℕ) → length next ≤ length (lines_onto tabs lines next)
unfolding lines_onto
lines_wide tabs [] next = omega arith
lines_wide tabs (blank b ∷ lines) next = omega (arith, lines_wide tabs lines next, blank_wide b (lines_onto tabs lines next))
lines_wide tabs (text t e ∷ lines) next =
    let rest = line_end_onto e (lines_onto tabs lines next) in
    omega (arith, lines_wide tabs lines next, end_wide e (lines_onto tabs lines next), append_wide t rest, tabs_wide (suc tabs) (t ++ rest))

mutual
  unfolding concept_onto

  pub concept_wide : (c : Concept) (tabs : ℕ) (next : List ℕ) → length next < length (concept_onto tabs c next)
  concept_wide (self_closed k) tabs next = omega (arith, marker_wide k self next)
  concept_wide (children k rest inner back) tabs next =
      let end = tabs_onto back (closing_onto k.name next) in
      omega (
        arith,
        closing_wide k.name next,
        tabs_wide back (closing_onto k.name next),
        body_wide inner end,
        blank_wide rest (body_onto inner end),
        marker_wide k block (blank_onto rest (body_onto inner end)),
      )
  concept_wide (content k rest lines) tabs next =
      let end = tabs_onto tabs (closing_onto k.name next) in
      omega (
        arith,
        closing_wide k.name next,
        tabs_wide tabs (closing_onto k.name next),
        lines_wide tabs lines end,
        blank_wide rest (lines_onto tabs lines end),
        marker_wide k block (blank_onto rest (lines_onto tabs lines end)),
      )

  pub body_wide : (b : Body) (next : List ℕ) → length next ≤ length (body_onto b next)
  body_wide done next = omega arith
  body_wide (blank_line b inner) next = omega (arith, body_wide inner next, blank_wide b (body_onto inner next))
  body_wide (element notes tabs c rest inner) next =
      let behind = blank_onto rest (body_onto inner next) in
      omega (
        arith,
        body_wide inner next,
        blank_wide rest (body_onto inner next),
        concept_wide c tabs behind,
        tabs_wide tabs (concept_onto tabs c behind),
        annotations_wide notes (tabs_onto tabs (concept_onto tabs c behind)),
      )
