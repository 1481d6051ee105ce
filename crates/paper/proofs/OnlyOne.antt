-- The derivation is the only one: two derivations of one sheet under one table are equal, also past the limits. Assumes nothing.
use Prim.Native.Nat.{ℕ, ◌≤◌, max}
use mathlib.Core.Path.{◌≡◌, refl, sym, ap, ◌∙◌}
use mathlib.Core.Bool.{true}
use mathlib.Core.List.{List, [], ◌∷◌}
use native.Mathlib.Omega.{arith}
use lib.ListN.{length}
use borrow.Author.Tests.{le-leb}
use Rattle.paper.specs.Found.{found}
use Rattle.paper.specs.Bytes.{all}
use Rattle.paper.specs.Modes.{Modes}
use Rattle.paper.specs.Values.{bracket_depth}
use Rattle.paper.specs.Tree.{Trait, Marker, Concept, self_closed, children, content, Body, done, blank_line, element, Sheet}
use Rattle.paper.specs.Grammar.{Derives}
use Rattle.paper.specs.Limits.{trait_fits, marker_fits, concept_fits, body_fits, concept_depth}
use Rattle.paper.specs.Entries.{sheet_size}
use Rattle.paper.specs.Reading.{Bounds, sheet_tree}
use Rattle.paper.proofs.Lists.{and}
use Rattle.paper.proofs.Sheets.{sheet_complete}

-- ---- any tree keeps some limits

-- how long its names and how deep its brackets are at the most, in one number
traits_most : List Trait → ℕ
traits_most [] = 0
traits_most (t ∷ ts) = max (max (length t.name) (bracket_depth t.value)) (traits_most ts)

abbrev marker_most : Marker → ℕ
marker_most k = max (length k.name) (traits_most k.traits)

mutual
  concept_most : Concept → ℕ
  concept_most (self_closed k) = marker_most k
  concept_most (children k rest inner back) = max (marker_most k) (body_most inner)
  concept_most (content k rest lines) = marker_most k

  body_most : Body → ℕ
  body_most done = 0
  body_most (blank_line b inner) = body_most inner
  body_most (element notes tabs c rest inner) = max (concept_most c) (body_most inner)

traits_fit : (n : ℕ) (ts : List Trait) → traits_most ts ≤ n → all (trait_fits n n) ts ≡ true
unfolding traits_most all trait_fits
traits_fit n [] h = refl
traits_fit n (t ∷ ts) h = and (and (le-leb (length t.name) n (omega arith)) (le-leb (bracket_depth t.value) n (omega arith))) (traits_fit n ts (omega arith))

marker_fits_lem : (n : ℕ) (k : Marker) → marker_most k ≤ n → marker_fits n n k ≡ true
unfolding marker_fits
marker_fits_lem n k h = and (le-leb (length k.name) n (omega arith)) (traits_fit n k.traits (omega arith))

mutual
  unfolding concept_most concept_fits

  concept_fits_lem : (n : ℕ) (c : Concept) → concept_most c ≤ n → concept_fits n n c ≡ true
  concept_fits_lem n (self_closed k) h = marker_fits_lem n k h
  concept_fits_lem n (children k rest inner back) h = and (marker_fits_lem n k (omega arith)) (body_fits_lem n inner (omega arith))
  concept_fits_lem n (content k rest lines) h = marker_fits_lem n k h

  body_fits_lem : (n : ℕ) (b : Body) → body_most b ≤ n → body_fits n n b ≡ true
  body_fits_lem n done h = refl
  body_fits_lem n (blank_line b inner) h = body_fits_lem n inner h
  body_fits_lem n (element notes tabs c rest inner) h = and (concept_fits_lem n c (omega arith)) (body_fits_lem n inner (omega arith))

-- ---- reading by limits that two trees keep finds each of them

pub only_one : (m : Modes) (s : List ℕ) (t u : Sheet) → Derives m s t → Derives m s u → t ≡ u
only_one m s t u d e =
    let n = max (concept_most t.root) (concept_most u.root) in
    let deeper = max (concept_depth t.root) (concept_depth u.root) in
    let room = max (sheet_size t) (sheet_size u) in
    let by : Bounds = record { names = n; brackets = n } in
    let a =
    sheet_complete m by deeper room t (record {
      rule = d.rule;
      modes = d.modes;
      within = concept_fits_lem n t.root (omega arith);
      depth = omega arith;
      fits = omega arith;
    }) in
    let b =
    sheet_complete m by deeper room u (record {
      rule = e.rule;
      modes = e.modes;
      within = concept_fits_lem n u.root (omega arith);
      depth = omega arith;
      fits = omega arith;
    }) in
    let same : found t [] ≡ found u [] = sym a ∙ ap (sheet_tree m by deeper room) (d.covers ∙ sym e.covers) ∙ b in
    cc
