-- What the walk over the entries asks of the tree that stands before it.
-- Document 01, "Entries", "Sizes" and "Canonical form".
use Rattle.std.specs.Prelude.{ℕ, suc, ◌+◌, ◌-◌, ◌≤◌, ◌≡◌, Bool, true, List, [], ◌∷◌, map, length, drop, eqb, count_by}
use Rattle.std.specs.List.{range_with_len}
use Rattle.paper.specs.Found.{pick}
use Rattle.paper.specs.Bytes.{all, lf}
use Rattle.paper.specs.Names.{name_limit}
use Rattle.paper.specs.Tree.{Annotation, Line, Concept, Body, Sheet}
use Rattle.paper.specs.Grammar.{tabs_onto, annotations_onto, closing_onto, lines_onto, sheet_onto, line_rule, concept_rule, body_rule}
use Rattle.paper.specs.Limits.{bracket_limit, concept_limit, concept_fits, body_fits, concept_depth, body_depth}
use Rattle.paper.specs.Entries.{Entry, unnamed, annotation_entries, concept_size, body_size, body_count, all_cells, entries}
use Rattle.paper.specs.Canonical.{BodySense, annotation_sense, line_sense, concept_sense, body_sense, print_notes, print_lines, print_concept, print_body, print_more}
use Rattle.paper.specs.Canonical.{canonical}
use Rattle.entries.specs.Laid.{entry_at, Stand, kind_at}
use Rattle.quoting.specs.declared.page.Page.{Page}
use Rattle.quoting.specs.Page.{page, Puts}
use Rattle.printing.specs.Standing.{Ends, OfConcept, OfBody}

-- annotations from entry n on, whose lines start at `at`
pub record OfNotes (s cells : List ℕ) (n parent at : ℕ) (notes : List Annotation) : Type 0 where
  pub after : List ℕ
  pub spelt : drop at s ≡ annotations_onto notes after
  pub stand : Stand cells n (annotation_entries parent at notes)

-- the Content of entry n, whose lines start at `at` behind a marker's line of so many tabs
pub record OfContent (s cells : List ℕ) (n at tabs : ℕ) (lines : List Line) : Type 0 where
  pub parent : ℕ
  pub name : List ℕ
  pub after : List ℕ
  pub spelt : drop at s ≡ lines_onto tabs lines (tabs_onto tabs (closing_onto name after))
  pub stand : Stand cells n (unnamed 5 0 parent 0 at (at + length (lines_onto tabs lines [])) ∷ [])

-- what a Concept, and a body, keeps where so many Concepts may still be opened
pub record Keeps (left : ℕ) (c : Concept) : Type 0 where
  pub rule : concept_rule c ≡ true
  pub within : concept_fits name_limit bracket_limit c ≡ true
  pub deep : concept_depth c ≤ left

pub record KeepsBody (left : ℕ) (body : Body) : Type 0 where
  pub rule : body_rule body ≡ true
  pub within : body_fits name_limit bracket_limit body ≡ true
  pub deep : body_depth body ≤ left

-- a sheet that reads to this tree, and its entries' cells
pub record OfSheet (s cells : List ℕ) (t : Sheet) : Type 0 where
  pub covers : sheet_onto t [] ≡ s
  pub keeps : Keeps concept_limit t.root
  pub are : cells ≡ all_cells (entries t)

-- how many of these entries are traits
unfoldable pub traits_in : List Entry → ℕ
traits_in [] = 0
traits_in (e ∷ es) = pick (eqb e.kind 2) (suc (traits_in es)) (traits_in es)

-- so many of the entries from one up to another are traits
abbrev pub Traits : List ℕ → ℕ → ℕ → ℕ → Type 0
Traits cells from to count = count ≡ count_by (λ n. eqb (kind_at cells n) 2) (range_with_len from (to - from))

-- so many others does entry n count, where its traits stand up to `next`
abbrev pub Elements : List ℕ → ℕ → ℕ → ℕ → Type 0
Elements cells n next count = (es : List Entry) → Stand cells n es → next ≡ n + length es → count ≡ (entry_at cells n).count - traits_in es

-- the elements that are left of a body: the first of them, or those behind another
abbrev pub print_rest : Bool → ℕ → BodySense → List ℕ → List ℕ
print_rest between depth inner next = pick between (print_more depth inner next) (print_body depth inner next)

-- ---- what a function that puts such a part leaves of the page, for every tree that stands there, and the entry that comes next

-- the annotations from entry n on, behind which stands none
abbrev pub NotesPut : List ℕ → List ℕ → ℕ → ℕ → Page → ℕ → Page → Type 0
NotesPut s cells n depth before next after =
    (parent place : ℕ) (notes : List Annotation) → OfNotes s cells n parent place notes → (kind_at cells (n + length notes) ≡ 4 → ⊥)
    → (next ≡ n + length notes) × Puts before (print_notes depth (map annotation_sense notes)) after

-- the Content of entry n
abbrev pub ContentPut : List ℕ → List ℕ → ℕ → ℕ → Page → ℕ → Page → Type 0
ContentPut s cells n tabs before next after =
    (place t : ℕ) (ls : List Line) → OfContent s cells n place t ls → all line_rule ls ≡ true
    → (next ≡ n + 1) × Puts before (print_lines tabs (map line_sense ls)) after

-- the Concept of entry n, with its line end
abbrev pub ConceptPut : List ℕ → List ℕ → ℕ → ℕ → ℕ → Page → ℕ → Page → Type 0
ConceptPut s cells n depth left before next after =
    (parent place tabs : ℕ) (c : Concept) → OfConcept s cells n parent place tabs c → Keeps left c
    → (next ≡ n + concept_size c) × Puts before (λ t. tabs_onto depth (print_concept depth (concept_sense c) (lf ∷ t))) after

-- so many elements of a body, from entry n on
abbrev pub BodyPut : List ℕ → List ℕ → ℕ → ℕ → ℕ → ℕ → Page → ℕ → Page → Type 0
BodyPut s cells n elements depth left before next after =
    (parent place : ℕ) (body : Body) → OfBody s cells n parent place body → KeepsBody left body → Ends cells (n + body_size body)
    → elements ≡ body_count body → (next ≡ n + body_size body) × Puts before (print_body depth (body_sense body)) after

-- a whole sheet, from the first byte on
abbrev pub SheetPut : List ℕ → List ℕ → List ℕ → List ℕ → ℕ → Type 0
SheetPut s cells out after to = (t : Sheet) → OfSheet s cells t → page out 0 (canonical t) ≡ page after to []
