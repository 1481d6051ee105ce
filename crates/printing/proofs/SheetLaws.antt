-- A whole sheet put on a page: the annotations of its root, and the root. Document 01, "Canonical form". Assumes nothing.
use Prim.Native.Nat.{ℕ, ◌+◌, ◌*◌}
use mathlib.Core.Path.{◌≡◌, sym, ap, ◌∙◌}
use mathlib.Core.List.{List, [], ◌∷◌, ◌++◌, append-nil}
use native.Mathlib.Omega.{arith}
use native.Mathlib.Nat.{zero-add}
use lib.ListN.{length, drop, replicate, length-replicate}
use Rattle.paper.specs.Bytes.{lf, tab}
use Rattle.paper.specs.Tree.{Sheet}
use Rattle.paper.specs.Grammar.{blanks_onto, annotations_onto, tabs_onto, concept_onto, sheet_onto}
use Rattle.paper.specs.Limits.{concept_limit}
use Rattle.paper.specs.Entries.{Entry, entry_cells, all_cells, no_parent, concept_size, annotation_entries, concept_entry, inside_entries, root_start, sheet_size}
use Rattle.paper.specs.Entries.{entries}
use Rattle.paper.specs.Canonical.{concept_sense, meaning, print_concept, print, canonical}
use Rattle.paper.proofs.Sizes.{notes_size, entries_size}
use Rattle.paper.proofs.Fronts.{blanks_front, notes_front, past_front, past_bytes}
use Rattle.entries.specs.Laid.{Stand, kind_at}
use Rattle.entries.proofs.Laying.{cells_length}
use Rattle.entries.proofs.Getting.{at_none}
use Rattle.entries.proofs.Standing.{stand_front, stand_back}
use Rattle.quoting.specs.declared.page.Page.{Page}
use Rattle.quoting.specs.Page.{page}
use Rattle.printing.specs.Standing.{Ends, OfConcept}
use Rattle.printing.specs.Walking.{OfNotes, OfSheet, NotesPut, ConceptPut}
use Rattle.printing.proofs.BodyLaws.{own_entry_lem}

module _ (s cells : List ℕ) (t : Sheet) (of : OfSheet s cells t) where
  abbrev before : ℕ
  before = length (blanks_onto t.before [])

  abbrev notes : List Entry
  notes = annotation_entries no_parent before t.annotations

  abbrev own : ℕ
  own = length t.annotations

  abbrev root : List Entry
  root = concept_entry no_parent (root_start t) t.tabs t.root ∷ inside_entries own (root_start t) t.tabs t.root

  abbrev rest : List ℕ
  rest = blanks_onto t.after (t.last ++ [])

  stands : Stand cells 0 (notes ++ root)
  unfolding entries
  stands = record { rest = []; held = of.are ∙ sym (append-nil (all_cells (notes ++ root))) }

  front : drop before s ≡ annotations_onto t.annotations (tabs_onto t.tabs (concept_onto t.tabs t.root rest))
  unfolding sheet_onto
  front = ap (λ (n : ℕ). drop n s) (sym (zero-add before))
      ∙ past_front s 0 (blanks_onto t.before) (annotations_onto t.annotations (tabs_onto t.tabs (concept_onto t.tabs t.root rest)))
      (blanks_front t.before) (sym of.covers)

  notes_of : OfNotes s cells 0 no_parent before t.annotations
  notes_of = record { after = tabs_onto t.tabs (concept_onto t.tabs t.root rest); spelt = front; stand = stand_front cells 0 notes root stands }

  -- no entry stands behind the last one
  none_behind : Ends cells (own + concept_size t.root)
  unfolding sheet_size
  none_behind =
      let size : length cells ≡ (own + concept_size t.root) * entry_cells = ap length of.are ∙ cells_length (entries t)
      ∙ ap (λ (n : ℕ). n * entry_cells) (entries_size t) in
      let kind : kind_at cells (own + concept_size t.root) ≡ 0 = ap (λ (e : Entry). e.kind) (at_none cells (own + concept_size t.root) (omega arith)) in
      record { no_trait_lem = λ k. omega (arith, sym kind ∙ k); no_item = λ k. omega (arith, sym kind ∙ k) }

  root_of : OfConcept s cells own no_parent (root_start t) t.tabs t.root
  root_of =
      let size : 0 + length notes ≡ own = omega (arith, notes_size t.annotations no_parent before) in
      let mark = past_front s before (annotations_onto t.annotations) (tabs_onto t.tabs (concept_onto t.tabs t.root rest))
      (notes_front t.annotations) front in
      record {
        after = rest;
        spelt = ap (λ (n : ℕ). drop (before + length (annotations_onto t.annotations []) + n) s) (sym (length-replicate t.tabs tab))
            ∙ past_bytes s (before + length (annotations_onto t.annotations [])) (replicate t.tabs tab) (concept_onto t.tabs t.root rest) mark;
        stand = rw size at (stand_back cells 0 notes root stands);
        ends = none_behind;
      }

  no_note : kind_at cells (0 + own) ≡ 4 → ⊥
  no_note k =
      let z : 0 + own ≡ own = zero-add own in
      let kind = ap (λ (e : Entry). e.kind) (own_entry_lem s cells own no_parent (root_start t) t.tabs t.root root_of) in
      omega (arith, sym kind ∙ ap (kind_at cells) (sym z) ∙ k)

  -- `out` is what the page's bytes were at first, and `after` what they are at last, since they lie where they lay
  pub sheet_put : (out after : List ℕ) {first noted last : Page} (n next : ℕ) → first.out.now ≡ out → first.at ≡ 0
      → (last.out.ghost_name ≡ first.out.ghost_name → after ≡ last.out.now) → NotesPut s cells 0 0 first n noted
      → ConceptPut s cells n 0 concept_limit noted next last → page out 0 (canonical t) ≡ page after last.at []
  unfolding meaning print
  sheet_put out after {first} {noted} {last} n next e f g put concept =
      let p = put no_parent before t.annotations notes_of no_note in
      let at : n ≡ own = p.0 ∙ zero-add own in
      let q = (rw at at concept) no_parent (root_start t) t.tabs t.root root_of of.keeps in
      ap (λ (l : List ℕ). page l 0 (canonical t)) (sym e) ∙ ap (λ (i : ℕ). page first.out.now i (canonical t)) (sym f)
      ∙ p.1.same (print_concept 0 (concept_sense t.root) (lf ∷ [])) ∙ q.1.same []
      ∙ ap (λ (l : List ℕ). page l last.at []) (sym (g (q.1.lies ∙ p.1.lies)))
