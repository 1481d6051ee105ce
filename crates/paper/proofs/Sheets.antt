-- Whole sheets: what reading finds, and that it finds what stands there. Assumes nothing.
use Prim.Native.Nat.{ℕ, ◌+◌, ◌-◌, ◌≤◌}
use mathlib.Core.Path.{◌≡◌, refl, sym, ap, ◌∙◌}
use mathlib.Core.Logic.{inl}
use mathlib.Core.Bool.{true}
use mathlib.Core.List.{List, [], ◌∷◌, ◌++◌}
use native.Mathlib.Omega.{arith}
use lib.ListN.{length}
use Rattle.paper.specs.Found.{found}
use Rattle.paper.specs.Bytes.{is_blank, is_line_end, all, starts_in, length_in, front, behind}
use Rattle.paper.specs.Modes.{Modes}
use Rattle.paper.specs.Tree.{Blank, Sheet}
use Rattle.paper.specs.Grammar.{blanks_onto, tabs_onto, annotations_onto, concept_onto, sheet_onto, blank_rule, annotation_rule, concept_rule, sheet_rule, sheet_modes}
use Rattle.paper.specs.Limits.{concept_fits, concept_depth}
use Rattle.paper.specs.Entries.{sheet_size}
use Rattle.paper.specs.Reading.{Bounds, blank_lines, is_tab, tabs_only, concept_of, annotated_of, at_line_end, last_blanks, sheet_tree}
use Rattle.paper.proofs.Lists.{both, and, all_head, front_all, front_behind, front_of, behind_of}
use Rattle.paper.proofs.Finds.{tail_drop, Reads, reads_on, reads_in}
use Rattle.paper.proofs.Lines.{ReadBlanks, blanks_reads, blanks_complete, only_reads}
use Rattle.paper.proofs.Concepts.{ReadAnnotated, annotated_reads, annotated_complete, concept_complete, begins_element, blank_ends, element_parts}

pub record ReadSheet (m : Modes) (by : Bounds) (deeper room : ℕ) (s : List ℕ) (t : Sheet) (left : List ℕ) : Type 0 where
  pub over : left ≡ []
  pub covers : s ≡ sheet_onto t []
  pub rule : sheet_rule t ≡ true
  pub modes : sheet_modes m t ≡ true
  pub within : concept_fits by.names by.brackets t.root ≡ true
  pub depth : concept_depth t.root ≤ deeper
  pub fits : sheet_size t ≤ room

-- what the end of input cuts is blanks
last_reads : (s : List ℕ) → Reads s (λ last left. (left ≡ []) × (s ≡ last ++ []) × (all is_blank last ≡ true)) (last_blanks (front is_blank s) (behind is_blank s))
unfolding last_blanks
last_reads s = go (behind is_blank s) refl
  where
    go : (r : List ℕ) → behind is_blank s ≡ r → Reads s (λ last left. (left ≡ []) × (s ≡ last ++ []) × (all is_blank last ≡ true)) (last_blanks (front is_blank s) r)
    go [] e = (rw e at (tail_drop (length_in is_blank s) s), (refl, sym (front_behind is_blank s) ∙ ap (λ (l : List ℕ). front is_blank s ++ l) e, front_all is_blank s))
    go (b ∷ l) e = record { least = omega arith; most = inl (omega arith); tail = rw e at (tail_drop (length_in is_blank s) s) }

last_complete : (last : List ℕ) → all is_blank last ≡ true → last_blanks (front is_blank (last ++ [])) (behind is_blank (last ++ [])) ≡ found last []
unfolding last_blanks starts_in
last_complete last r = rw (behind_of is_blank last [] r refl, last_blanks, front_of is_blank last [] r refl)

pub sheet_reads : (m : Modes) (by : Bounds) (deeper room : ℕ) (s : List ℕ)
    → Reads s (λ t left. ReadSheet m by deeper room s t left) (sheet_tree m by deeper room s)
unfolding sheet_tree sheet_onto sheet_rule sheet_size
sheet_reads m by deeper room s =
    reads_on s (λ bs left. ReadBlanks s bs left) _ _ (blank_lines s) (blanks_reads s)
    (λ before first t b. reads_on s (λ tabs mark. mark ≡ behind is_tab first) _ _ (tabs_only first) (reads_in t _ (tabs_only first) (only_reads first))
    (λ tabs mark u l. reads_on s (λ a left. ReadAnnotated m by deeper room first a left) _ _ (annotated_of m by deeper room first)
    (reads_in t _ (annotated_of m by deeper room first) (annotated_reads m by deeper room first))
    (λ a left u k. reads_on s (λ bs end. ReadBlanks left bs end) _ _ (blank_lines left) (reads_in u _ (blank_lines left) (blanks_reads left))
    (λ after rest u q. reads_on s (λ last end. (end ≡ []) × (rest ≡ last ++ []) × (all is_blank last ≡ true)) _ _ (last_blanks (front is_blank rest) (behind is_blank rest))
    (reads_in u _ (last_blanks (front is_blank rest) (behind is_blank rest)) (last_reads rest))
    (λ last end u e. (
      u,
      record {
        over = e.0;
        covers = b.covers ∙ ap (blanks_onto before)
            (k.covers ∙ ap (λ (l : List ℕ). annotations_onto a.notes (tabs_onto a.tabs (concept_onto a.tabs a.concept l)))
            (q.covers ∙ ap (blanks_onto after) e.1));
        rule = and (and (and (and b.rule k.notes_rule) k.rule) q.rule) e.2;
        modes = k.modes;
        within = k.within;
        depth = k.depth;
        fits = k.fits;
      },
    ))))))

-- behind the root stands the end of its line
ends_root : (after : List Blank) (last : List ℕ) → all blank_rule after ≡ true → all is_blank last ≡ true
    → at_line_end (behind is_blank (blanks_onto after (last ++ []))) ≡ true
unfolding blanks_onto at_line_end starts_in
ends_root [] last r e = ap at_line_end (behind_of is_blank last [] e refl)
ends_root (b ∷ after) last r e = blank_ends b (blanks_onto after (last ++ [])) (all_head blank_rule b after r).0

pub record Keeps (m : Modes) (by : Bounds) (deeper room : ℕ) (t : Sheet) : Type 0 where
  pub rule : sheet_rule t ≡ true
  pub modes : sheet_modes m t ≡ true
  pub within : concept_fits by.names by.brackets t.root ≡ true
  pub depth : concept_depth t.root ≤ deeper
  pub fits : sheet_size t ≤ room

pub sheet_complete : (m : Modes) (by : Bounds) (deeper room : ℕ) (t : Sheet) → Keeps m by deeper room t
    → sheet_tree m by deeper room (sheet_onto t []) ≡ found t []
unfolding sheet_tree sheet_onto sheet_rule sheet_size starts_in
sheet_complete m by deeper room t k =
    let p = both _ (all is_blank t.last) k.rule in
    let q = element_parts (all blank_rule t.before) (all annotation_rule t.annotations) (concept_rule t.root) (all blank_rule t.after) p.0 in
    let end = t.last ++ [] in
    let left = blanks_onto t.after end in
    let s = concept_onto t.tabs t.root left in
    let first = annotations_onto t.annotations (tabs_onto t.tabs s) in
    let g = begins_element t.annotations t.tabs t.root left q.2 in
    rw (
      blanks_complete t.before first q.0 g.filled,
      g.only,
      annotated_complete (concept_of m by deeper) room t.annotations t.tabs t.root left q.1 q.2 (omega (arith, k.fits))
          (concept_complete m by t.root (length s + 1) deeper (room - length t.annotations) t.tabs left q.2 k.modes k.within k.depth
          (omega (arith, k.fits)) (ends_root t.after t.last q.3 p.1) (omega arith)),
      blanks_complete t.after end q.3 (ap (starts_in is_line_end) (behind_of is_blank t.last [] p.1 refl)),
      last_complete t.last p.1,
    )
