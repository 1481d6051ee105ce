-- How long what a marker, a Concept and a body cover is, with what follows it; and how many of a body's entries its Concept is the parent of. Assumes nothing.
use Prim.Native.Nat.{ℕ, ◌+◌, ◌≤◌}
use mathlib.Core.Path.{◌≡◌, ap}
use mathlib.Core.List.{List, [], ◌∷◌, ◌++◌}
use native.Mathlib.Omega.{arith}
use lib.ListN.{length, length-append}
use Rattle.paper.specs.Bytes.{byte}
use Rattle.paper.specs.Values.{value_onto, spelling}
use Rattle.paper.specs.Tree.{Trait, Marker, block, self, Concept, self_closed, children, content, Body, done, blank_line, element}
use Rattle.paper.specs.Grammar.{blank_onto, tabs_onto, trait_onto, traits_onto, marker_onto, ending_onto, closing_onto, lines_onto, concept_onto, body_onto}
use Rattle.paper.specs.Entries.{concept_size, body_size, body_count}
use Rattle.paper.proofs.ReadValues.{value_append}
use Rattle.lines.proofs.Lengths.{tabs_long, blank_long, notes_long, lines_long}

pub trait_long : (t : Trait) (next : List ℕ) → length (trait_onto t next) ≡ length t.white + length t.name + 1 + length (spelling t.value) + length next
trait_long t next =
    let value = value_onto t.value next in
    omega (
      arith,
      length-append t.white (t.name ++ (byte "=" ∷ value)),
      length-append t.name (byte "=" ∷ value),
      ap length (value_append t.value next),
      length-append (spelling t.value) next,
    )

traits_long : (ts : List Trait) (next : List ℕ) → length (traits_onto ts next) ≡ length (traits_onto ts []) + length next
unfolding traits_onto
traits_long [] next = omega arith
traits_long (t ∷ ts) next = omega (arith, trait_long t (traits_onto ts next), trait_long t (traits_onto ts []), traits_long ts next)

pub marker_long : (k : Marker) (next : List ℕ) → length (marker_onto k next) ≡ length (marker_onto k []) + length next
marker_long k next =
    let more = k.white ++ next in
    let none = k.white ++ [] in
    omega (
      arith,
      length-append k.name (traits_onto k.traits more),
      length-append k.name (traits_onto k.traits none),
      traits_long k.traits more,
      traits_long k.traits none,
      length-append k.white next,
      length-append k.white [],
    )

closing_long : (w next : List ℕ) → length (closing_onto w next) ≡ length (closing_onto w []) + length next
closing_long w next = omega (arith, length-append w (byte ">" ∷ next), length-append w (byte ">" ∷ []))

mutual
  unfolding concept_onto

  pub concept_long : (c : Concept) (tabs : ℕ) (next : List ℕ) → length (concept_onto tabs c next) ≡ length (concept_onto tabs c []) + length next
  concept_long (self_closed k) tabs next = omega (arith, marker_long k (ending_onto self next), marker_long k (ending_onto self []))
  concept_long (children k rest inner back) tabs next =
      let more = tabs_onto back (closing_onto k.name next) in
      let none = tabs_onto back (closing_onto k.name []) in
      omega (
        arith,
        marker_long k (ending_onto block (blank_onto rest (body_onto inner more))),
        marker_long k (ending_onto block (blank_onto rest (body_onto inner none))),
        blank_long rest (body_onto inner more),
        blank_long rest (body_onto inner none),
        body_long inner more,
        body_long inner none,
        tabs_long back
            (closing_onto k.name next),
        tabs_long back (closing_onto k.name []),
        closing_long k.name next,
      )
  concept_long (content k rest lines) tabs next =
      let more = tabs_onto tabs (closing_onto k.name next) in
      let none = tabs_onto tabs (closing_onto k.name []) in
      omega (
        arith,
        marker_long k (ending_onto block (blank_onto rest (lines_onto tabs lines more))),
        marker_long k (ending_onto block (blank_onto rest (lines_onto tabs lines none))),
        blank_long rest (lines_onto tabs lines more),
        blank_long rest
            (lines_onto tabs lines none),
        lines_long tabs lines more,
        lines_long tabs lines none,
        tabs_long tabs (closing_onto k.name next),
        tabs_long tabs
            (closing_onto k.name []),
        closing_long k.name next,
      )

  pub body_long : (b : Body) (next : List ℕ) → length (body_onto b next) ≡ length (body_onto b []) + length next
  body_long done next = omega arith
  body_long (blank_line b inner) next = omega (arith, blank_long b (body_onto inner next), blank_long b (body_onto inner []), body_long inner next)
  body_long (element notes tabs c rest inner) next =
      let more = blank_onto rest (body_onto inner next) in
      let none = blank_onto rest (body_onto inner []) in
      omega (
        arith,
        notes_long notes (tabs_onto tabs (concept_onto tabs c more)),
        notes_long notes (tabs_onto tabs (concept_onto tabs c none)),
        tabs_long tabs (concept_onto tabs c more),
        tabs_long tabs (concept_onto tabs c none),
        concept_long c tabs more,
        concept_long c tabs none,
        blank_long rest
            (body_onto inner next),
        blank_long rest (body_onto inner []),
        body_long inner next,
      )

-- no more entries name the Concept as parent than there are
concept_some : (c : Concept) → 1 ≤ concept_size c
unfolding concept_size
concept_some (self_closed k) = omega arith
concept_some (children k rest body back) = omega arith
concept_some (content k rest lines) = omega arith

pub body_few : (b : Body) → body_count b ≤ body_size b
unfolding body_count concept_size
body_few done = omega arith
body_few (blank_line b body) = body_few body
body_few (element notes tabs c rest body) = omega (arith, concept_some c, body_few body)
