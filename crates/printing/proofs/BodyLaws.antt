-- The elements of a children body: the first of them, what is left of them, and what is put for them. Document 01, "Canonical form". Assumes nothing.
use Prim.Native.Nat.{ℕ, ◌+◌, ◌-◌, ◌≤◌, ◌<◌}
use mathlib.Core.Path.{◌≡◌, refl, sym, ap, ◌∙◌}
use mathlib.Core.Bool.{Bool, true, false}
use mathlib.Core.List.{List, [], ◌∷◌, ◌++◌, map}
use native.Mathlib.Omega.{arith}
use lib.ListN.{length, drop, replicate, length-replicate}
use Rattle.paper.specs.Found.{pick}
use Rattle.paper.specs.Bytes.{all, lf, tab}
use Rattle.paper.specs.Names.{name_limit}
use Rattle.paper.specs.Tree.{Annotation, Concept, Body, done, blank_line, element}
use Rattle.paper.specs.Grammar.{blank_onto, annotations_onto, tabs_onto, concept_onto, body_onto, blank_rule, annotation_rule, concept_rule, body_rule}
use Rattle.paper.specs.Limits.{bracket_limit, concept_fits, body_fits, body_depth}
use Rattle.paper.specs.Entries.{Entry, annotation_entries, concept_size, body_size, body_count, concept_width, concept_entry, inside_entries, body_entries}
use Rattle.paper.specs.Canonical.{ConceptSense, BodySense, empty, with, annotation_sense, concept_sense, body_sense, print_notes, print_concept, print_body}
use Rattle.paper.specs.Canonical.{print_more}
use Rattle.paper.proofs.Lists.{both}
use Rattle.paper.proofs.Sizes.{notes_size, inside_size_lem}
use Rattle.paper.proofs.Concepts.{element_parts}
use Rattle.paper.proofs.Fronts.{blank_front, notes_front, whole_front, concept_ends, past_front, past_bytes}
use Rattle.entries.specs.Laid.{entry_at, Stand, kind_at}
use Rattle.entries.proofs.Standing.{stand_entry, stand_front, stand_back}
use Rattle.quoting.specs.declared.page.Page.{Page}
use Rattle.quoting.specs.Page.{Step, Puts}
use Rattle.quoting.proofs.Putting.{puts_then, step_as, step_then}
use Rattle.printing.specs.Standing.{Ends, OfConcept, OfBody}
use Rattle.printing.proofs.Marking.{body_ends}
use Rattle.printing.specs.Walking.{OfNotes, Keeps, KeepsBody, print_rest, NotesPut, ConceptPut}

-- ---- the first element of a body

pub record First (s cells : List ℕ) (left n parent : ℕ) (body : Body) : Type 0 where
  pub notes : List Annotation
  pub tabs : ℕ
  pub it : Concept
  pub behind : Body
  pub notes_at : ℕ
  pub at : ℕ
  pub behind_at : ℕ
  pub of_notes : OfNotes s cells n parent notes_at notes
  pub of : OfConcept s cells (n + length notes) parent at tabs it
  pub of_behind : OfBody s cells (n + length notes + concept_size it) parent behind_at behind
  pub keeps : Keeps left it
  pub keeps_behind : KeepsBody left behind
  pub count : body_count body ≡ length notes + 1 + body_count behind
  pub size : body_size body ≡ length notes + concept_size it + body_size behind
  pub sense : body_sense body ≡ with (map annotation_sense notes) (concept_sense it) (body_sense behind)

pub first : (s cells : List ℕ) (left n parent at : ℕ) (body : Body) → OfBody s cells n parent at body → KeepsBody left body
    → Ends cells (n + body_size body) → 0 < body_count body → First s cells left n parent body
unfolding body_count body_size body_sense body_entries body_onto body_rule body_fits body_depth
first s cells left n parent at done of keeps none h = absurd (omega arith)
first s cells left n parent at (blank_line b body) of keeps none h =
    let f =
    first s cells left n parent (at + length (blank_onto b [])) body
    (record { after = of.after; spelt = past_front s at (blank_onto b) (body_onto body of.after) (blank_front b) of.spelt; stand = of.stand })
    (record { rule = (both (blank_rule b) (body_rule body) keeps.rule).1; within = keeps.within; deep = keeps.deep })
    none h in
    record {
      notes = f.notes;
      tabs = f.tabs;
      it = f.it;
      behind = f.behind;
      notes_at = f.notes_at;
      at = f.at;
      behind_at = f.behind_at;
      of_notes = f.of_notes;
      of = f.of;
      of_behind = f.of_behind;
      keeps = f.keeps;
      keeps_behind = f.keeps_behind;
      count = f.count;
      size = f.size;
      sense = f.sense;
    }
first s cells left n parent at (element notes tabs c rest body) of keeps none h =
    let start = at + length (annotations_onto notes []) + tabs in
    let end = start + concept_width tabs c + length (blank_onto rest []) in
    let own = n + length notes in
    let noted = annotation_entries parent at notes in
    let inside = inside_entries own start tabs c in
    let others = body_entries parent (own + concept_size c) end body in
    let concepts = concept_entry parent start tabs c ∷ (inside ++ others) in
    let later = body_onto body of.after in
    let mark = past_front s at (annotations_onto notes) (tabs_onto tabs (concept_onto tabs c (blank_onto rest later))) (notes_front notes) of.spelt in
    let spelt : drop start s ≡ concept_onto tabs c (blank_onto rest later) =
    ap (λ (k : ℕ). drop (at + length (annotations_onto notes []) + k) s) (sym (length-replicate tabs tab))
    ∙ past_bytes s (at + length (annotations_onto notes [])) (replicate tabs tab) (concept_onto tabs c (blank_onto rest later)) mark in
    let past = past_front s start (concept_onto tabs c) (blank_onto rest later) (whole_front (concept_onto tabs c) (concept_ends c tabs)) spelt in
    let size : n + length noted ≡ own = ap (λ (k : ℕ). n + k) (notes_size notes parent at) in
    let stands : Stand cells own concepts = rw size at (stand_back cells n noted concepts of.stand) in
    let more : own + length (concept_entry parent start tabs c ∷ inside) ≡ own + concept_size c = ap (λ (k : ℕ). own + k) (inside_size_lem c own start tabs) in
    let r = element_parts (all annotation_rule notes) (concept_rule c) (blank_rule rest) (body_rule body) keeps.rule in
    let w = both (concept_fits name_limit bracket_limit c) (body_fits name_limit bracket_limit body) keeps.within in
    let of_behind : OfBody s cells (own + concept_size c) parent end body =
    record {
      after = of.after;
      spelt = past_front s (start + concept_width tabs c) (blank_onto rest) later (blank_front rest) past;
      stand = rw more at (stand_back cells own (concept_entry parent start tabs c ∷ inside) others stands);
    } in
    let whole : n + (length notes + concept_size c + body_size body) ≡ own + concept_size c + body_size body = omega arith in
    record {
      notes = notes;
      tabs = tabs;
      it = c;
      behind = body;
      notes_at = at;
      at = start;
      behind_at = end;
      of_notes = record {
        after = tabs_onto tabs (concept_onto tabs c (blank_onto rest later));
        spelt = of.spelt;
        stand = stand_front cells n noted concepts
            of.stand;
      };
      of = record {
        after = blank_onto rest later;
        spelt = spelt;
        stand = stand_front cells own (concept_entry parent start tabs c ∷ inside) others stands;
        ends = body_ends cells body (own + concept_size c) parent end of_behind.stand (rw whole at none);
      };
      of_behind = of_behind;
      keeps = record { rule = r.1; within = w.0; deep = omega (arith, keeps.deep) };
      keeps_behind = record { rule = r.3; within = w.1; deep = omega (arith, keeps.deep) };
      count = refl;
      size = refl;
      sense = refl;
    }

-- the entry of a Concept
pub own_entry_lem : (s cells : List ℕ) (n parent at tabs : ℕ) (c : Concept) → OfConcept s cells n parent at tabs c → entry_at cells n ≡ concept_entry parent at tabs c
own_entry_lem s cells n parent at tabs c of = stand_entry cells n (concept_entry parent at tabs c) (inside_entries n at tabs c) of.stand

-- ---- what is left of the elements

-- a body that holds no element has no entry and no meaning
none_left : (body : Body) → body_count body ≡ 0 → (body_size body ≡ 0) × (body_sense body ≡ empty)
unfolding body_count body_size body_sense
none_left done e = (refl, refl)
none_left (blank_line b body) e = none_left body e
none_left (element notes tabs c rest body) e = absurd (omega arith)

rest_none : (between : Bool) (depth : ℕ) (t : List ℕ) → print_rest between depth empty t ≡ t
unfolding print_body
rest_none true depth t = refl
rest_none false depth t = refl

-- an element: an empty line if it stands behind another, annotations, and the Concept
rest_with : (between : Bool) (depth : ℕ) (notes : List (List ℕ)) (c : ConceptSense) (inner : BodySense) (t : List ℕ)
    → print_rest between depth (with notes c inner) t
    ≡ pick between (lf ∷ print_notes depth notes (tabs_onto depth (print_concept depth c (lf ∷ print_more depth inner t))))
    (print_notes depth notes (tabs_onto depth (print_concept depth c (lf ∷ print_more depth inner t))))
unfolding print_body
rest_with true depth notes c inner t = refl
rest_with false depth notes c inner t = refl

module _ (s cells : List ℕ) (depth deep whole : ℕ) (before : Page) (body : Body) where
  pub record BodyLeft (left next : ℕ) (between : Bool) (now : Page) : Type 0 where
    pub parent : ℕ
    pub place : ℕ
    pub more : Body
    pub of : OfBody s cells next parent place more
    pub keeps : KeepsBody deep more
    pub few : left ≡ body_count more
    pub total : next + body_size more ≡ whole
    pub put : Step before (print_body depth (body_sense body)) now (print_rest between depth (body_sense more))

  module _ (none : Ends cells whole) {left next : ℕ} {between : Bool} {now : Page} (so_far : BodyLeft left next between now) where
    module _ (some : 0 < left) where
      abbrev one : First s cells deep next so_far.parent so_far.more
      one = first s cells deep next so_far.parent so_far.place so_far.more so_far.of so_far.keeps (rw so_far.total none)
          (omega (arith, so_far.few))

      no_note : kind_at cells (next + length one.notes) ≡ 4 → ⊥
      no_note k =
          let own = own_entry_lem s cells (next + length one.notes) so_far.parent one.at one.tabs one.it one.of in
          let z : ◌≡◌ {A = ℕ} 1 4 = sym (ap (λ (e : Entry). e.kind) own) ∙ k in
          omega arith

      module _ {mid noted : Page} (n : ℕ) (gap : Puts now (λ t. pick between (lf ∷ t) t) mid) (notes : NotesPut s cells next depth mid n noted) where
        -- a Concept stands behind the annotations
        pub element_there : left ≤ n - next → ⊥
        element_there h =
            let p = notes so_far.parent one.notes_at one.notes one.of_notes no_note in
            omega (arith, p.0, so_far.few, one.count)

        pub element_on : (end : ℕ) {after : Page} → ConceptPut s cells n depth deep noted end after → BodyLeft (left - (n - next) - 1) end true after
        element_on end concept =
            let p = notes so_far.parent one.notes_at one.notes one.of_notes no_note in
            let here : n ≡ next + length one.notes = p.0 in
            let behind = next + length one.notes + concept_size one.it in
            let ends : behind + body_size one.behind ≡ whole = omega (arith, so_far.total, one.size) in
            let q = (rw here at concept) so_far.parent one.at one.tabs one.it one.of one.keeps in
            let concept_on = λ (t : List ℕ). tabs_onto depth (print_concept depth (concept_sense one.it) (lf ∷ t)) in
            let noted_on = λ (t : List ℕ). print_notes depth (map annotation_sense one.notes) (concept_on t) in
            record {
              parent = so_far.parent;
              place = one.behind_at;
              more = one.behind;
              of = rw q.0 one.of_behind;
              keeps = one.keeps_behind;
              few = omega (arith, here, so_far.few, one.count);
              total = omega (arith, q.0, ends);
              put = step_then (λ t. pick between (lf ∷ noted_on t) (noted_on t)) (print_more depth (body_sense one.behind)) so_far.put
                  (λ t. ap (λ (b : BodySense). print_rest between depth b t) one.sense
                  ∙ rest_with between depth (map annotation_sense one.notes) (concept_sense one.it) (body_sense one.behind) t)
                  (puts_then (λ t. pick between (lf ∷ t) t) noted_on gap (puts_then (print_notes depth (map annotation_sense one.notes)) concept_on p.1 q.1));
            }

    pub body_over : left ≤ 0 → (next ≡ whole) × Puts before (print_body depth (body_sense body)) now
    body_over h =
        let e = none_left so_far.more (omega (arith, so_far.few)) in (
          omega (arith, so_far.total, e.0),
          step_as so_far.put (λ t. ap (λ (b : BodySense). print_rest between depth b t) e.1 ∙ rest_none between depth t),
        )
