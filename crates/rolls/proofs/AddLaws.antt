-- Adding a form to a roll: the first entry, the room behind the first bytes, what the writer leaves of it, and the further LF.
-- Document 01, "Rolls", and refusals 12, 14 and 16. Assumes nothing.
use Prim.Native.Nat.{ℕ, suc, ◌+◌, ◌-◌, ◌≤◌, ◌<◌, min}
use mathlib.Core.Path.{◌≡◌, refl, sym, ap, ap₂, ◌∙◌}
use mathlib.Core.Bool.{true, false}
use mathlib.Core.List.{List, [], ◌∷◌, ◌++◌, append-nil, append_assoc}
use native.Mathlib.Nat.{zero-add}
use native.Mathlib.Omega.{arith}
use lib.ListN.{length, take, drop, get_or, set, replicate, length-append, take-append-drop}
use lib.Seq.{length-take-le, drop-drop, drop-append-le, drop-cons, set_at}
use borrow.Rule.Slice.PartMut.{mid_of, put_mid, put_same, mid_len}
use borrow.Author.Tests.{le-leb, lt-leb}
use Rattle.std.specs.Prelude.{Ok, Err}
use Rattle.paper.specs.declared.Refusal.{Refusal}
use Rattle.paper.specs.Answer.{Answer, accepted_at, refused_at, accepted, refused, told}
use Rattle.paper.specs.declared.Told.{Told}
use Rattle.paper.specs.Bytes.{lf}
use Rattle.paper.specs.Tree.{Annotation, Sheet}
use Rattle.paper.specs.Grammar.{blanks_onto}
use Rattle.paper.specs.Limits.{sheet_limit}
use Rattle.paper.specs.Entries.{Entry, all_cells, no_parent, unnamed, annotation_entries, concept_entry, inside_entries, root_start, entries}
use Rattle.paper.specs.Canonical.{canonical}
use Rattle.paper.specs.Reading.{Reading}
use Rattle.paper.specs.Writing.{Begun, tree, unread, begin, Writing, not_written, written_at, write_form}
use Rattle.paper.specs.Roll.{roll_limit, add_fits, ends_in_line, add_form, add_tree, adding}
use Rattle.paper.proofs.Tests.{split, up_to}
use Rattle.paper.proofs.Lists.{by_front}
use Rattle.paper.proofs.Numbers.{number_positive}
use Rattle.entries.specs.Laid.{entry_at}
use Rattle.entries.proofs.Getting.{at_drop}
use Rattle.printing.specs.Walking.{OfSheet}
use Rattle.layout.proofs.WriteLaws.{form_fits_lem, form_not, Passed, Read}
use Rattle.rolls.specs.Adding.{unended, SheetAdded}
use Rattle.rolls.specs.Promises.{AddsUnder}
use Rattle.paper.specs.declared.Refused.{Refused}

-- ---- the first entry: an annotation's, or the root Concept's

module _ (s cells : List ℕ) (t : Sheet) (of : OfSheet s cells t) where
  abbrev before : ℕ
  before = length (blanks_onto t.before [])

  abbrev root : List Entry
  root = concept_entry no_parent (root_start t) t.tabs t.root ∷ inside_entries (length t.annotations) (root_start t) t.tabs t.root

  entries_of : {notes : List Annotation} → t.annotations ≡ notes → entries t ≡ annotation_entries no_parent before notes ++ root
  unfolding entries
  entries_of e = ap (λ (notes : List Annotation). annotation_entries no_parent before notes ++ root) e

  first_is : {e : Entry} {es : List Entry} → entries t ≡ e ∷ es → entry_at cells 0 ≡ e
  first_is {e} {es} q = at_drop cells 0 e es [] (of.are ∙ ap all_cells q ∙ sym (append-nil (all_cells (e ∷ es))))

  root_first : t.annotations ≡ [] → (entry_at cells 0).kind ≡ 1
  unfolding annotation_entries
  root_first e = ap (λ (x : Entry). x.kind) (first_is (entries_of e))

  note_first : (a : Annotation) (notes : List Annotation) → t.annotations ≡ a ∷ notes
      → entry_at cells 0 ≡ unnamed 4 0 no_parent 0 (before + a.tabs + 1) (before + a.tabs + 1 + length a.text)
  unfolding annotation_entries
  note_first a notes e = first_is (entries_of e)

  -- an annotation's "[" stands one byte before its text
  pub mark_before : (entry_at cells 0).kind ≡ 4 → 1 ≤ (entry_at cells 0).start
  mark_before k =
      by_front t.annotations (λ e. absurd (omega (arith, root_first e)))
      (λ a notes e. omega (arith, ap (λ (x : Entry). x.start) (note_first a notes e)))

  module _ (lent : ℕ) (roll : List ℕ) (n : ℕ) where
    abbrev by_notes : List Annotation → Writing
    by_notes notes = elim notes [ [] ↦ add_form lent roll n (canonical t) | a ∷ more ↦ not_written lent roll 16 (before + a.tabs) ]

    by_notes_lem : {notes : List Annotation} → t.annotations ≡ notes → by_notes notes ≡ add_tree lent roll n t
    unfolding add_tree
    by_notes_lem e = ap by_notes (sym e)

    pub add_noted : (entry_at cells 0).kind ≡ 4 → not_written lent roll 16 ((entry_at cells 0).start - 1) ≡ add_tree lent roll n t
    add_noted k =
        by_front t.annotations (λ e. absurd (omega (arith, root_first e)))
        (λ a notes e.
        let place : (entry_at cells 0).start - 1 ≡ before + a.tabs = omega (arith, ap (λ (x : Entry). x.start) (note_first a notes e)) in
        ap (not_written lent roll 16) place ∙ by_notes_lem e)

    pub add_bare : ((entry_at cells 0).kind ≡ 4 → ⊥) → add_form lent roll n (canonical t) ≡ add_tree lent roll n t
    add_bare k = by_front t.annotations by_notes_lem (λ a notes e. absurd (k (ap (λ (x : Entry). x.kind) (note_first a notes e))))

-- ---- the room behind the first n bytes

module _ (lent : ℕ) (roll form : List ℕ) (n room : ℕ) (is : room ≡ min (min (length roll) roll_limit - n) sheet_limit) where
  fits : length form < room → add_fits roll n form ≡ true
  fits h = rw (le-leb (length form + 1) sheet_limit (omega arith), le-leb (n + length form + 1) (min (length roll) roll_limit) (omega arith))

  fits_not : room ≤ length form → add_fits roll n form ≡ false
  fits_not h =
      up_to (length form + 1) sheet_limit
      (λ l. rw (le-leb (length form + 1) sheet_limit l, lt-leb (n + length form + 1) (min (length roll) roll_limit) (omega arith)))
      (λ l. rw (lt-leb (length form + 1) sheet_limit l))

  pub add_long : room ≤ length form → not_written lent roll 12 0 ≡ add_form lent roll n form
  unfolding add_form
  add_long h = rw (fits_not h, add_form)

  add_unended : length form < room → ends_in_line roll n ≡ false → not_written lent roll 14 n ≡ add_form lent roll n form
  unfolding add_form
  add_unended h e = rw (fits h, add_form, e)

  -- 12 comes before 14
  pub add_refused : 0 < room → ends_in_line roll n ≡ false → (answer : Told) → answer ≡ unended form (room - 1) n
      → record { answer = answer; out = roll; cells = replicate lent 0 } ≡ add_form lent roll n form
  add_refused some e answer q =
      up_to (length form) (room - 1)
      (λ h. ap (λ (x : Told). record { answer = x; out = roll; cells = replicate lent 0 }) (q ∙ rw (le-leb (length form) (room - 1) h))
      ∙ add_unended (omega arith) e)
      (λ h. ap (λ (x : Told). record { answer = x; out = roll; cells = replicate lent 0 }) (q ∙ rw (lt-leb (length form) (room - 1) h))
      ∙ add_long (omega arith))

  pub add_ended : length form < room → ends_in_line roll n ≡ true → written_at lent roll n (form ++ (lf ∷ [])) ≡ add_form lent roll n form
  unfolding add_form
  add_ended h e = rw (fits h, add_form, e)

-- ---- what the canonical writer left of the room that it was lent

module _ (out after form : List ℕ) (r : Answer) (e : record { answer = told r; out = after; cells = replicate 0 0 } ≡ write_form 0 out form) where
  -- it wrote the form
  pub record Wrote (count : ℕ) : Type 0 where
    pub room : length form ≤ length out
    pub size : count ≡ length form
    pub left : after ≡ form ++ drop (length form) out

  -- or nothing, since the form is too long
  pub record Unwritten : Type 0 where
    pub long : min (length out) sheet_limit < length form
    pub answer : told r ≡ refused 12 0
    pub left : after ≡ out

  pub wrote : (place count : ℕ) → r ≡ Ok (accepted_at place count) → Wrote count
  wrote place count is =
      up_to (length form) (min (length out) sheet_limit)
      (λ h.
      let q = e ∙ form_fits_lem 0 out form h in
      record {
        room = omega arith;
        size = omega (arith, sym (ap (λ (x : Told). x.count) (ap told is)) ∙ ap (λ (x : Writing). x.answer.count) q);
        left = ap (λ (x : Writing). x.out) q ∙ rw (zero-add (length form));
      })
      (λ h.
      let q = e ∙ form_not 0 out form h in
      absurd (omega (arith, sym (ap (λ (x : Told). x.number) (ap told is)) ∙ ap (λ (x : Writing). x.answer.number) q)))

  pub unwritten : (why : Refusal) (place : ℕ) → r ≡ Err (refused_at why place) → Unwritten
  unwritten why place is =
      up_to (length form) (min (length out) sheet_limit)
      (λ h.
      let q = e ∙ form_fits_lem 0 out form h in
      absurd (number_positive why (sym (ap (λ (x : Told). x.number) (ap told is)) ∙ ap (λ (x : Writing). x.answer.number) q)))
      (λ h.
      let q = e ∙ form_not 0 out form h in
      record { long = h; answer = ap (λ (x : Writing). x.answer) q; left = ap (λ (x : Writing). x.out) q })

-- the answer of a roll that does not end in LF, seen on a page
module _ (page after form : List ℕ) (r : Answer) (e : record { answer = told r; out = after; cells = replicate 0 0 } ≡ write_form 0 page form)
    (room n : ℕ) (few : room < sheet_limit) (size : length page ≡ room) where
  pub page_long : (why : Refusal) (place : ℕ) → r ≡ Err (refused_at why place) → told r ≡ unended form room n
  page_long why place is =
      let none = unwritten page after form r e why place is in
      none.answer ∙ rw (lt-leb (length form) room (omega (arith, none.long)))

  pub page_holds : (place count : ℕ) → r ≡ Ok (accepted_at place count) → refused 14 n ≡ unended form room n
  page_holds place count is =
      let did = wrote page after form r e place count is in
      rw (le-leb (length form) room (omega (arith, did.room)))

-- ---- the form in its part of the roll, and the further LF

-- the form stands in front of a part, which is back in the roll; then the byte behind it is set
lf_behind : (roll form after : List ℕ) (n k : ℕ) → n + length form < length roll → length form ≤ length (mid_of n k roll)
    → after ≡ form ++ drop (length form) (mid_of n k roll)
    → set (put_mid n k roll after) (n + length form) lf ≡ take n roll ++ ((form ++ (lf ∷ [])) ++ drop (n + length (form ++ (lf ∷ []))) roll)
lf_behind roll form after n k inside room is =
    let part : List ℕ = mid_of n k roll in
    let head : List ℕ = take n roll ++ form in
    let size : length head ≡ n + length form = omega (arith, length-append (take n roll) form, length-take-le n roll (omega arith)) in
    let behind : drop (length form) part ++ drop k (drop n roll) ≡ get_or roll (n + length form) 0 ∷ drop (suc (n + length form)) roll =
    sym (drop-append-le (length form) part (drop k (drop n roll)) room) ∙ ap (drop (length form)) (take-append-drop k (drop n roll))
    ∙ drop-drop (length form) n roll ∙ drop-cons roll (n + length form) 0 inside in
    let back : put_mid n k roll after ≡ head ++ get_or roll (n + length form) 0 ∷ drop (suc (n + length form)) roll =
    ap (λ (l : List ℕ). take n roll ++ (l ++ drop k (drop n roll))) is
    ∙ ap (λ (l : List ℕ). take n roll ++ l) (append_assoc form (drop (length form) part) (drop k (drop n roll)) ∙ ap (λ (l : List ℕ). form ++ l) behind)
    ∙ sym (append_assoc (take n roll) form _) in
    let end : suc (n + length form) ≡ n + length (form ++ (lf ∷ [])) = omega (arith, length-append form (lf ∷ [])) in
    ap (λ (l : List ℕ). set l (n + length form) lf) back ∙ set_at head _ _ lf (n + length form) size
    ∙ append_assoc (take n roll) form _ ∙ ap (λ (l : List ℕ). take n roll ++ l) (sym (append_assoc form (lf ∷ []) _))
    ∙ ap (λ (m : ℕ). take n roll ++ ((form ++ (lf ∷ [])) ++ drop m roll)) end

module _ (roll form after : List ℕ) (n room : ℕ) (r : Answer) (is : room ≡ min (min (length roll) roll_limit - n) sheet_limit) (some : 0 < room)
    (e : record { answer = told r; out = after; cells = replicate 0 0 } ≡ write_form 0 (mid_of n (n + (room - 1) - n) roll) form) where
  abbrev size : ℕ
  size = n + (room - 1) - n

  part_length : length (mid_of n size roll) ≡ room - 1
  part_length = mid_len n (n + (room - 1)) roll (omega arith) ∙ omega arith

  module _ (place count : ℕ) (told_so : r ≡ Ok (accepted_at place count)) where
    did : Wrote (mid_of n size roll) after form r e count
    did = wrote (mid_of n size roll) after form r e place count told_so

    -- there is room for the further LF
    pub form_inside : n + count < length roll
    form_inside = omega (arith, did.room, did.size, part_length)

    pub form_added : (lent : ℕ) → ends_in_line roll n ≡ true
        → record { answer = accepted 0 (n + count + 1); out = set (put_mid n size roll after) (n + count) lf; cells = replicate lent 0 }
        ≡ add_form lent roll n form
    form_added lent ended =
        let total : n + count + 1 ≡ n + length (form ++ (lf ∷ [])) = omega (arith, did.size, length-append form (lf ∷ [])) in
        let at : n + count ≡ n + length form = ap (λ (m : ℕ). n + m) did.size in
        let put = ap (λ (m : ℕ). set (put_mid n size roll after) m lf) at
        ∙ lf_behind roll form after n size (omega (arith, form_inside)) did.room did.left in
        ap₂ (λ (m : ℕ) (l : List ℕ). record { answer = accepted 0 m; out = l; cells = replicate lent 0 }) total put
        ∙ add_ended lent roll form n room is (omega (arith, did.room, part_length)) ended

  pub form_long : (lent : ℕ) (why : Refusal) (place : ℕ) → r ≡ Err (refused_at why place)
      → record { answer = told r; out = put_mid n size roll after; cells = replicate lent 0 } ≡ add_form lent roll n form
  form_long lent why place told_so =
      let none = unwritten (mid_of n size roll) after form r e why place told_so in
      ap₂ (λ (x : Told) (l : List ℕ). record { answer = x; out = l; cells = replicate lent 0 }) none.answer
      (ap (put_mid n size roll) none.left ∙ put_same n size roll)
      ∙ add_long lent roll form n room is (omega (arith, none.long, part_length))

-- ---- adding, from the table on

-- a refused table or sheet is passed through
pub under_refused : (table s roll : List ℕ) (n lent : ℕ) (r : Answer) (e : Refused) (zeros : List ℕ) → Passed table s lent (told (Err e)) zeros → r ≡ Err e
    → AddsUnder table s roll n lent (told r) roll
unfolding adding
under_refused table s roll n lent r e zeros p is =
    let k : record { answer = told (Err e); out = roll; cells = zeros } ≡ adding table s roll n lent =
    rw (p.begins, adding) (ap (λ (x : Reading). record { answer = x.answer; out = roll; cells = x.cells }) p.is) in
    rw is (ap (λ (x : Writing). x.answer) k, ap (λ (x : Writing). x.out) k)

-- what adding the tree leaves that the sheet reads to
pub sheet_added : (table s roll held after : List ℕ) (n lent : ℕ) (answer : Told) → Read table s lent held → SheetAdded s held roll n answer after
    → AddsUnder table s roll n lent answer after
unfolding adding
sheet_added table s roll held after n lent answer read f =
    let e : record { answer = answer; out = after; cells = replicate lent 0 } ≡ adding table s roll n lent =
    rw (read.begins, adding) (f read.it lent read.of) in
    (ap (λ (x : Writing). x.answer) e, ap (λ (x : Writing). x.out) e)

-- every cell is zero after every answer
form_cells : (lent n : ℕ) (roll form : List ℕ) → (add_form lent roll n form).cells ≡ replicate lent 0
unfolding add_form
form_cells lent n roll form =
    split (add_fits roll n form)
    (λ f. split (ends_in_line roll n) (λ g. rw (f, add_form, g)) (λ g. rw (f, add_form, g)))
    (λ f. rw (f, add_form))

tree_cells : (lent n : ℕ) (roll : List ℕ) (t : Sheet) → (add_tree lent roll n t).cells ≡ replicate lent 0
unfolding add_tree
tree_cells lent n roll t =
    by_front t.annotations (λ e. rw (e, add_tree) (form_cells lent n roll (canonical t))) (λ a notes e. rw (e, add_tree))

pub adding_cells : (table s roll : List ℕ) (n lent : ℕ) → (adding table s roll n lent).cells ≡ replicate lent 0
unfolding adding
adding_cells table s roll n lent = by_tree (begin table s lent) refl
  where
    by_tree : (b : Begun) → begin table s lent ≡ b → (adding table s roll n lent).cells ≡ replicate lent 0
    by_tree (unread k at) b = rw (b, adding)
    by_tree (tree t) b = rw (b, adding) (tree_cells lent n roll t)
