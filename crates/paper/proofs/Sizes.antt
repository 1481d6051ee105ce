-- How many entries a tree has, and that its cells say which. Assumes nothing.
use Prim.Native.Nat.{ℕ, suc, ◌+◌, ◌-◌, ◌*◌}
use mathlib.Core.Path.{◌≡◌, refl, ap, ap₂}
use mathlib.Core.List.{List, [], ◌∷◌, ◌++◌}
use native.Mathlib.Omega.{arith}
use lib.ListN.{length, replicate, length-append}
use Rattle.paper.specs.Values.{opener, Value, leaf, empty_bracket, bracket, More, close, comma}
use Rattle.paper.specs.Tree.{Trait, Annotation, Concept, self_closed, children, content, Body, done, blank_line, element, Sheet}
use Rattle.paper.specs.Grammar.{blank_onto, blanks_onto, annotation_onto, annotations_onto, trait_onto, lines_onto}
use Rattle.paper.specs.Entries.{Entry, all_cells, value_width, label_width, item_size, more_size, item_entries, more_entries, trait_size, traits_size, trait_value, trait_entries}
use Rattle.paper.specs.Entries.{annotation_entries, unnamed, concept_size, body_size, concept_width, concept_entry, marker_name, body_start, inside_entries, body_entries}
use Rattle.paper.specs.Entries.{no_parent, root_start, sheet_size, entries, entry_cells, filled}

-- ---- as many entries as the size says

mutual
  unfolding item_entries item_size

  pub item_size_lem : (v : Value) (parent next at : ℕ) → length (item_entries parent next at v) ≡ item_size v
  item_size_lem (leaf v) parent next at = refl
  item_size_lem (empty_bracket k) parent next at = refl
  item_size_lem (bracket k a v more) parent next at =
      let start = at + length (opener k) + label_width a in
      omega (
        arith,
        length-append (item_entries next (next + 1) start v) (more_entries parent (next + 1 + item_size v) (start + value_width v) more),
        item_size_lem v next (next + 1) start,
        more_size_lem more parent (next + 1 + item_size v) (start + value_width v),
      )

  more_size_lem : (more : More) (parent next at : ℕ) → length (more_entries parent next at more) ≡ more_size more
  more_size_lem close parent next at = refl
  more_size_lem (comma white a v more) parent next at =
      let start = at + 1 + length white + label_width a in
      omega (
        arith,
        length-append (item_entries next (next + 1) start v) (more_entries parent (next + 1 + item_size v) (start + value_width v) more),
        item_size_lem v next (next + 1) start,
        more_size_lem more parent (next + 1 + item_size v) (start + value_width v),
      )

pub traits_size_lem : (ts : List Trait) (parent next at : ℕ) → length (trait_entries parent next at ts) ≡ traits_size ts
unfolding trait_entries traits_size
traits_size_lem [] parent next at = refl
traits_size_lem (t ∷ ts) parent next at =
    omega (
      arith,
      length-append (item_entries next (next + 1) (trait_value at t) t.value) (trait_entries parent (next + trait_size t) (at + length (trait_onto t [])) ts),
      item_size_lem t.value next (next + 1) (trait_value at t),
      traits_size_lem ts parent (next + trait_size t) (at + length (trait_onto t [])),
    )

pub notes_size : (notes : List Annotation) (parent at : ℕ) → length (annotation_entries parent at notes) ≡ length notes
unfolding annotation_entries
notes_size [] parent at = refl
notes_size (a ∷ notes) parent at = ap suc (notes_size notes parent (at + length (annotation_onto a [])))

mutual
  unfolding inside_entries concept_size

  pub inside_size_lem : (c : Concept) (own at tabs : ℕ) → suc (length (inside_entries own at tabs c)) ≡ concept_size c
  inside_size_lem (self_closed k) own at tabs = omega (arith, traits_size_lem k.traits own (own + 1) (marker_name at k))
  inside_size_lem (children k rest body back) own at tabs =
      omega (
        arith,
        length-append (trait_entries own (own + 1) (marker_name at k) k.traits)
            (body_entries own (own + 1 + traits_size k.traits) (body_start at k rest) body),
        traits_size_lem k.traits own (own + 1) (marker_name at k),
        body_size_lem body own
            (own + 1 + traits_size k.traits) (body_start at k rest),
      )
  inside_size_lem (content k rest lines) own at tabs =
      omega (
        arith,
        length-append (trait_entries own (own + 1) (marker_name at k) k.traits)
            (unnamed 5 0 own 0 (body_start at k rest) (body_start at k rest + length (lines_onto tabs lines [])) ∷ []),
        traits_size_lem k.traits own (own + 1)
            (marker_name at k),
      )

  pub body_size_lem : (b : Body) (parent next at : ℕ) → length (body_entries parent next at b) ≡ body_size b
  body_size_lem done parent next at = refl
  body_size_lem (blank_line b body) parent next at = body_size_lem body parent next (at + length (blank_onto b []))
  body_size_lem (element notes tabs c rest body) parent next at =
      let start = at + length (annotations_onto notes []) + tabs in
      let more = body_entries parent (next + length notes + concept_size c) (start + concept_width tabs c + length (blank_onto rest [])) body in
      let inside = inside_entries (next + length notes) start tabs c in
      omega (
        arith,
        length-append (annotation_entries parent at notes) (concept_entry parent start tabs c ∷ (inside ++ more)),
        length-append inside more,
        notes_size notes parent at,
        inside_size_lem c (next + length notes) start tabs,
        body_size_lem body parent (next + length notes + concept_size c)
            (start + concept_width tabs c + length (blank_onto rest [])),
      )

pub entries_size : (t : Sheet) → length (entries t) ≡ sheet_size t
unfolding entries sheet_size
entries_size t =
    let at = length (blanks_onto t.before []) in
    let own = concept_entry no_parent (root_start t) t.tabs t.root ∷ inside_entries (length t.annotations) (root_start t) t.tabs t.root in
    omega (
      arith,
      length-append (annotation_entries no_parent at t.annotations) own,
      notes_size t.annotations no_parent at,
      inside_size_lem t.root (length t.annotations) (root_start t) t.tabs,
    )

-- ---- cells say which entries they are

same_entry : (e f : Entry) → e.kind ≡ f.kind → e.form ≡ f.form → e.parent ≡ f.parent → e.count ≡ f.count → e.name_start ≡ f.name_start → e.name_end ≡ f.name_end
    → e.start ≡ f.start → e.end ≡ f.end → e ≡ f
same_entry e f a b c d g h i j = λ k. record { kind = a k; form = b k; parent = c k; count = d k; name_start = g k; name_end = h k; start = i k; end = j k }

same_entries : (es fs : List Entry) (y z : List ℕ) → length es ≡ length fs → all_cells es ++ y ≡ all_cells fs ++ z → es ≡ fs
unfolding all_cells
same_entries [] [] y z l e = refl
same_entries [] (f ∷ fs) y z l e = absurd (omega arith)
same_entries (e ∷ es) [] y z l q = absurd (omega arith)
same_entries (e ∷ es) (f ∷ fs) y z l q =
    let a : e.kind ≡ f.kind = cc in
    let b : e.form ≡ f.form = cc in
    let c : e.parent ≡ f.parent = cc in
    let d : e.count ≡ f.count = cc in
    let g : e.name_start ≡ f.name_start = cc in
    let h : e.name_end ≡ f.name_end = cc in
    let i : e.start ≡ f.start = cc in
    let j : e.end ≡ f.end = cc in
    let r : all_cells es ++ y ≡ all_cells fs ++ z = cc in
    ap₂ (λ (x : Entry) (xs : List Entry). x ∷ xs) (same_entry e f a b c d g h i j) (same_entries es fs y z (omega arith) r)

pub filled_only : (lent : ℕ) (es fs : List Entry) → length es ≡ length fs → filled lent es ≡ filled lent fs → es ≡ fs
unfolding filled
filled_only lent es fs l e = same_entries es fs (replicate (lent - entry_cells * length es) 0) (replicate (lent - entry_cells * length fs) 0) l e
