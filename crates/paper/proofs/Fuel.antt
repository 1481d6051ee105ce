-- Fuel above the length does not matter in reading Concepts and bodies, and the steps of these readings without fuel. Assumes nothing.
use Prim.Native.Nat.{ℕ, zero, suc, ◌+◌, ◌-◌, ◌≤◌, ◌<◌}
use mathlib.Core.Path.{◌≡◌, ap, ◌∙◌}
use mathlib.Core.Bool.{true, false}
use mathlib.Core.List.{List}
use native.Mathlib.Numerals.{add-one}
use native.Mathlib.Omega.{arith}
use lib.ListN.{length}
use Rattle.paper.specs.declared.Mode.TheVariants.{Children}
use Rattle.paper.specs.Found.{Found, found, and_then}
use Rattle.paper.specs.Bytes.{is_upper, length_in, behind}
use Rattle.paper.specs.Modes.{Modes}
use Rattle.paper.specs.Tree.{Marker, block, self, Concept, self_closed, children, Body, done, Annotated, BodyPiece, blank_piece, element_piece, before}
use Rattle.paper.specs.Grammar.{in_mode}
use Rattle.paper.specs.Entries.{body_size}
use Rattle.paper.specs.Reading.{Bounds, line_rest, is_blank_line, is_tab, tabs_only, annotations, Opened, opening, closing, content_of, room_in, inside_by, annotated_by}
use Rattle.paper.specs.Reading.{piece_by, is_closing, concept, children_of, body, concept_of, block_of, body_of, piece_of}
use Rattle.paper.proofs.Finds.{tail_length, tail_then, tail_drop, then_same}
use Rattle.paper.proofs.Lines.{ReadBlank, rest_reads, rule_name}
use Rattle.paper.proofs.Annotations.{ReadAnnotations, annotations_reads}
use Rattle.paper.proofs.Widths.{marker_wide}
use Rattle.paper.proofs.Concepts.{concept_reads, ReadOpening, opening_reads, ReadPiece, piece_by_lem, piece_reads, marker_name_lem}

-- what a marker leaves is three bytes shorter than its line at least
pub marker_shorter : (m : Modes) (by : Bounds) (deeper room : ℕ) (s : List ℕ) (o : Opened) (left : List ℕ) → ReadOpening m by deeper room s o left
    → length left + 3 ≤ length s
marker_shorter m by deeper room s o left p =
    omega (arith, ap length p.covers, marker_wide o.marker o.ends left, (rule_name is_upper o.marker.name (marker_name_lem o.marker p.rule)).1)

-- ---- two ways to read on that are alike over what is left

inside_alike : (m : Modes) (one other : ℕ → ℕ → Marker → List ℕ → Found Concept) (deeper room tabs : ℕ) (o : Opened) (left : List ℕ)
    → ((deeper room : ℕ) (k : Marker) → one deeper room k left ≡ other deeper room k left)
    → inside_by m one deeper room tabs o left ≡ inside_by m other deeper room tabs o left
inside_alike m one other deeper room tabs o left h =
    ap (λ (x : Found Concept). elim o.ends [
      | self ↦ found (self_closed o.marker) left
      | block ↦ elim (in_mode Children m o.marker.name) [ true ↦ x | false ↦ content_of tabs (room_in room o) o.marker left ]
    ])
    (h (deeper - 1) (room_in room o) o.marker)

module _ (one other : ℕ → ℕ → List ℕ → Found Concept) (room : ℕ) (s : List ℕ)
    (h : (room tabs : ℕ) (l : List ℕ) → length l ≤ length s → one room tabs l ≡ other room tabs l) where
  annotated_alike : annotated_by one room s ≡ annotated_by other room s
  annotated_alike =
      then_same s (λ notes line. ReadAnnotations room s notes line) (annotations room s) _ _ (annotations_reads room s)
      (λ notes line t a. ap (λ (x : Found Concept). and_then x (λ c left. found (record { notes = notes; tabs = length_in is_tab line; concept = c }) left))
      (h (room - length notes) (length_in is_tab line) (behind is_tab line) (tail_length (tail_then t (tail_drop (length_in is_tab line) line)))))

  piece_alike : piece_by one room s ≡ piece_by other room s
  piece_alike =
      ap (λ (x : Found Annotated). elim (is_blank_line s) [
        | true ↦ and_then (line_rest s) (λ b left. found (blank_piece b) left)
        | false ↦ and_then (tabs_only s) (λ tabs mark. and_then x (λ a left. and_then (line_rest left) (λ rest end. found (element_piece a rest) end)))
      ]) annotated_alike

mutual
  unfolding concept

  pub concept_fuel : (m : Modes) (by : Bounds) (f g deeper room tabs : ℕ) (s : List ℕ) → length s < f → length s < g
      → concept m by f deeper room tabs s ≡ concept m by g deeper room tabs s
  concept_fuel m by zero g deeper room tabs s h k = absurd (omega arith)
  concept_fuel m by (suc f) zero deeper room tabs s h k = absurd (omega arith)
  concept_fuel m by (suc f) (suc g) deeper room tabs s h k =
      then_same s (λ o left. ReadOpening m by deeper room s o left) (opening m by deeper room s) _ _ (opening_reads m by deeper room s)
      (λ o left t p.
      let l = marker_shorter m by deeper room s o left p in
      inside_alike m (children_of m by f) (children_of m by g) deeper room tabs o left
      (λ deeper room i. children_fuel m by f g deeper room i left (omega arith) (omega arith)))

  pub children_fuel : (m : Modes) (by : Bounds) (f g deeper room : ℕ) (k : Marker) (s : List ℕ) → length s + 2 < f → length s + 2 < g
      → children_of m by f deeper room k s ≡ children_of m by g deeper room k s
  children_fuel m by zero g deeper room k s h l = absurd (omega arith)
  children_fuel m by (suc f) zero deeper room k s h l = absurd (omega arith)
  children_fuel m by (suc f) (suc g) deeper room k s h l =
      then_same s (λ b left. ReadBlank s b left) (line_rest s) _ _ (rest_reads s)
      (λ rest start t r. ap (λ (x : Found Body). and_then x
      (λ inner left. and_then (closing k.name (behind is_tab left)) (λ b end. found (children k rest inner (length_in is_tab left)) end)))
      (body_fuel m by f g deeper room start (omega (arith, r.shorter)) (omega (arith, r.shorter))))

  pub body_fuel : (m : Modes) (by : Bounds) (f g deeper room : ℕ) (s : List ℕ) → length s + 1 < f → length s + 1 < g
      → body m by f deeper room s ≡ body m by g deeper room s
  body_fuel m by zero g deeper room s h l = absurd (omega arith)
  body_fuel m by (suc f) zero deeper room s h l = absurd (omega arith)
  body_fuel m by (suc f) (suc g) deeper room s h l =
      ap (λ (x : Found Body). elim (is_closing s) [ true ↦ found done s | false ↦ x ])
      (ap (λ (x : Found BodyPiece). and_then x
      (λ p left. and_then (body m by f deeper (room - body_size (before p done)) left) (λ inner end. found (before p inner) end)))
      (piece_alike (concept m by f deeper) (concept m by g deeper) room s
      (λ room tabs line n. concept_fuel m by f g deeper room tabs line (omega arith) (omega arith)))
      ∙ then_same s (λ p left. ReadPiece m by deeper room s p left) (piece_by (concept m by g deeper) room s) _ _
      (piece_by_lem m by deeper (concept m by g deeper) (concept_reads m by g deeper) room s)
      (λ p left t r. ap (λ (x : Found Body). and_then x (λ inner end. found (before p inner) end))
      (body_fuel m by f g deeper (room - body_size (before p done)) left (omega (arith, r.shorter)) (omega (arith, r.shorter)))))

-- ---- the steps without fuel

pub concept_of_lem : (m : Modes) (by : Bounds) (deeper room tabs : ℕ) (s : List ℕ)
    → concept_of m by deeper room tabs s ≡ and_then (opening m by deeper room s) (inside_by m (block_of m by) deeper room tabs)
unfolding concept
concept_of_lem m by deeper room tabs s =
    rw (add-one (length s))
    (then_same s (λ o left. ReadOpening m by deeper room s o left) (opening m by deeper room s) _ _ (opening_reads m by deeper room s)
    (λ o left t p.
    let l = marker_shorter m by deeper room s o left p in
    inside_alike m (children_of m by (length s)) (block_of m by) deeper room tabs o left
    (λ deeper room k. children_fuel m by (length s) (length left + 3) deeper room k left (omega arith) (omega arith))))

pub block_of_lem : (m : Modes) (by : Bounds) (deeper room : ℕ) (k : Marker) (s : List ℕ)
    → block_of m by deeper room k s ≡ and_then (line_rest s) (λ rest start. and_then (body_of m by deeper room start) (λ inner left.
    and_then (closing k.name (behind is_tab left)) (λ b end. found (children k rest inner (length_in is_tab left)) end)))
unfolding concept
block_of_lem m by deeper room k s =
    let e : length s + 3 ≡ suc (length s + 2) = omega arith in
    rw e
    (then_same s (λ b left. ReadBlank s b left) (line_rest s) _ _ (rest_reads s)
    (λ rest start t r. ap (λ (x : Found Body). and_then x
    (λ inner left. and_then (closing k.name (behind is_tab left)) (λ b end. found (children k rest inner (length_in is_tab left)) end)))
    (body_fuel m by (length s + 2) (length start + 2) deeper room start (omega (arith, r.shorter)) (omega arith))))

pub body_of_lem : (m : Modes) (by : Bounds) (deeper room : ℕ) (s : List ℕ) → body_of m by deeper room s ≡ elim (is_closing s) [
  | true ↦ found done s
  | false ↦ and_then (piece_of m by deeper room s)
      (λ p left. and_then (body_of m by deeper (room - body_size (before p done)) left) (λ inner end. found (before p inner) end))
]
unfolding concept
body_of_lem m by deeper room s =
    let e : length s + 2 ≡ suc (length s + 1) = omega arith in
    rw e
    (ap (λ (x : Found Body). elim (is_closing s) [ true ↦ found done s | false ↦ x ])
    (ap (λ (x : Found BodyPiece). and_then x
    (λ p left. and_then (body m by (length s + 1) deeper (room - body_size (before p done)) left) (λ inner end. found (before p inner) end)))
    (piece_alike (concept m by (length s + 1) deeper) (concept_of m by deeper) room s
    (λ room tabs l n. concept_fuel m by (length s + 1) (length l + 1) deeper room tabs l (omega arith) (omega arith)))
    ∙ then_same s (λ p left. ReadPiece m by deeper room s p left) (piece_of m by deeper room s) _ _ (piece_reads m by deeper room s)
    (λ p left t r. ap (λ (x : Found Body). and_then x (λ inner end. found (before p inner) end))
    (body_fuel m by (length s + 1) (length left + 2) deeper (room - body_size (before p done)) left (omega (arith, r.shorter)) (omega arith)))))
