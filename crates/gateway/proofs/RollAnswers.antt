-- The numbers of an answer for a roll are small, and so are those of adding; what either tells. Over plain lists. Assumes nothing.
-- Document 01, "Rolls" and the answers of "Order".
use Prim.Native.Nat.{ℕ, zero, suc, ◌+◌, ◌≤◌, min}
use mathlib.Core.Path.{◌≡◌, refl, sym, ap, ◌∙◌}
use mathlib.Core.List.{List, [], ◌∷◌, ◌++◌}
use mathlib.Core.Bool.{true}
use lib.ListN.{length, take, length-append, length-replicate}
use lib.Dec.{leb, ltb}
use borrow.Author.Tests.{leb-true, lt-ltb, le-ltb, ltb-false}
use native.Mathlib.Omega.{arith}
use Rattle.paper.specs.declared.Told.{Told}
use Rattle.paper.specs.Found.{Found, found, fault}
use Rattle.paper.specs.Bytes.{lf}
use Rattle.paper.specs.Modes.{Modes, mode_table, read_table}
use Rattle.paper.specs.Tree.{Blank, Annotation, Sheet}
use Rattle.paper.specs.Grammar.{blanks_onto, annotations_onto, sheet_onto}
use Rattle.paper.specs.Limits.{sheet_limit}
use Rattle.paper.specs.Reading.{room_of}
use Rattle.paper.specs.Canonical.{canonical}
use Rattle.paper.specs.Writing.{Begun, tree, unread, begin, Writing}
use Rattle.paper.specs.Roll.{roll_limit, Parts, parts, parts_of, together, RollReading, roll_room, only_blanks, roll_faults, roll_reading}
use Rattle.paper.specs.Roll.{add_fits, ends_in_line, add_form, add_tree, adding}
use Rattle.paper.proofs.Tests.{split, up_to}
use Rattle.paper.proofs.Lists.{both, by_front}
use Rattle.paper.proofs.TableSizes.{table_small}
use Rattle.paper.proofs.Exactly.{sheet_answers, reading_small}
use Rattle.paper.proofs.Beginning.{Sound, Begins, begins, reads_tree}
use Rattle.paper.proofs.Fronts.{blanks_front}
use Rattle.paper.proofs.Rolls.{whole, nothing_lost}
use Rattle.gateway.specs.Answers.{Few, three_of}
use Rattle.gateway.specs.Promises.{TellsRoll, TellsAdding}

-- ---- a roll

-- some of the sheets are no longer than all of them
some_short : (n : ℕ) (ps : List (List ℕ)) → length (together (take n ps)) ≤ length (together ps)
unfolding together
some_short zero ps = omega arith
some_short (suc n) [] = omega arith
some_short (suc n) (p ∷ ps) = omega (arith, length-append p (together (take n ps)), length-append p (together ps), some_short n ps)

module _ (table r : List ℕ) (records : ℕ) (lead : List ℕ) (sheets : List (List ℕ)) (all : lead ++ together sheets ≡ r) where
  abbrev faults : Told
  faults = roll_faults table (roll_room records) r (parts lead sheets)

  lengths : length lead + length (together sheets) ≡ length r
  lengths = sym (length-append lead (together sheets)) ∙ ap length all

  module _ (h : length r ≤ roll_limit) where
    -- a place in the roll, and no more records than sheets are allowed
    by_lead : (m : Modes) (left : List ℕ) → mode_table table ≡ found m left → (x : Found (List ℕ)) → only_blanks lead ≡ x → Few faults
    unfolding roll_faults
    by_lead m left e (fault n rest) f = rw (le-ltb roll_limit (length r) h, roll_faults, e, f) (omega (arith, lengths), omega arith)
    by_lead m left e (found bs rest) f =
        split (ltb (roll_room records) (length sheets))
        (λ o. rw (le-ltb roll_limit (length r) h, roll_faults, e, f, o) (omega (arith, lengths, some_short (roll_room records) sheets), omega arith))
        (λ o.
        let few = ltb-false (roll_room records) (length sheets) o in
        rw (le-ltb roll_limit (length r) h, roll_faults, e, f, o) (omega arith, omega (arith, few)))

    -- a place in the table
    by_table : (x : Found Modes) → mode_table table ≡ x → Few faults
    unfolding roll_faults read_table
    by_table (found m left) e = by_lead m left e (only_blanks lead) refl
    by_table (fault n left) e =
        let small = rw (read_table, e) at (table_small table).0 in
        rw (le-ltb roll_limit (length r) h, roll_faults, e) (omega (arith, small), omega arith)

  faults_few : Few faults
  unfolding roll_faults
  faults_few =
      up_to (length r) roll_limit
      (λ h. by_table h (mode_table table) refl)
      (λ h. rw (lt-ltb roll_limit (length r) h, roll_faults) (omega arith, omega arith))

-- the answer of every roll
listing_few : (table r : List ℕ) (records lent : ℕ) → Few (roll_reading table r records lent).answer
unfolding roll_reading
listing_few table r records lent = go (parts_of r) (nothing_lost true r)
  where
    go : (q : Parts) → whole q ≡ r → Few (roll_faults table (roll_room records) r q)
    go (parts lead sheets) all = faults_few table r records lead sheets all

pub roll_few : (table r : List ℕ) (records lent : ℕ) (t : Told) (after cells : List ℕ)
    → record { answer = t; records = after; cells = cells } ≡ roll_reading table r records lent → Few t
roll_few table r records lent t after cells e =
    let a : t ≡ (roll_reading table r records lent).answer = ap (λ (x : RollReading). x.answer) e in
    rw a (listing_few table r records lent)

pub roll_told : (table r : List ℕ) (records lent : ℕ) (t : Told) (after cells answer : List ℕ)
    → record { answer = t; records = after; cells = cells } ≡ roll_reading table r records lent → answer ≡ three_of t
    → TellsRoll table r records lent after cells answer
roll_told table r records lent t after cells answer e told =
    (ap (λ (x : RollReading). x.records) e, ap (λ (x : RollReading). x.cells) e, told ∙ ap (λ (x : RollReading). three_of x.answer) e)

-- ---- adding

-- a form that fits ends in the roll, and so does what stands before it
form_few : (lent : ℕ) (roll : List ℕ) (n : ℕ) (form : List ℕ) → Few (add_form lent roll n form).answer
unfolding add_form
form_few lent roll n form =
    split (add_fits roll n form)
    (λ f.
    let short = leb-true (n + length form + 1) (min (length roll) roll_limit) (both (leb (length form + 1) sheet_limit) _ f).1 in
    split (ends_in_line roll n)
    (λ e. rw (f, add_form, e) (omega arith, omega (arith, short, length-append form (lf ∷ []))))
    (λ e. rw (f, add_form, e) (omega (arith, short), omega arith)))
    (λ f. rw (f, add_form) (omega arith, omega arith))

-- the "[" of an annotation before the root stands in the sheet
mark_inside : (bs : List Blank) (a : Annotation) (notes : List Annotation) (next : List ℕ)
    → length (blanks_onto bs []) + a.tabs ≤ length (blanks_onto bs (annotations_onto (a ∷ notes) next))
unfolding annotations_onto
mark_inside bs a notes next =
    let front = blanks_front bs in
    rw (front.is [], front.is (annotations_onto (a ∷ notes) next), length-append, length-append, length-append, length-replicate) (omega arith)

mark_in_sheet : (t : Sheet) (a : Annotation) (notes : List Annotation) → t.annotations ≡ a ∷ notes
    → length (blanks_onto t.before []) + a.tabs ≤ length (sheet_onto t [])
unfolding sheet_onto
mark_in_sheet t a notes e = rw e (mark_inside t.before a notes _)

tree_few : (table s : List ℕ) (lent : ℕ) (roll : List ℕ) (n : ℕ) (t : Sheet) → Sound table s lent t → Few (add_tree lent roll n t).answer
unfolding add_tree
tree_few table s lent roll n t h =
    by_front t.annotations
    (λ e. rw (e, add_tree) (form_few lent roll n (canonical t)))
    (λ a notes e.
    let short = rw (reads_tree h) at (reading_small table s lent).0 in
    let answers = rw h.read at (sheet_answers h.modes (room_of lent) s) in
    rw (e, add_tree) (omega (arith, mark_in_sheet t a notes e, ap length answers.1.derives.covers, short), omega arith))

added_few : (table s roll : List ℕ) (n lent : ℕ) → Few (adding table s roll n lent).answer
unfolding adding
added_few table s roll n lent = go (begin table s lent) refl (begins table s lent)
  where
    go : (b : Begun) → begin table s lent ≡ b → Begins table s lent b → Few (adding table s roll n lent).answer
    go (unread k at) e q =
        let small = rw q.is at (reading_small table s lent) in
        rw (e, adding) (omega (arith, small.0), omega arith)
    go (tree t) e q = rw (e, adding) (tree_few table s lent roll n t q)

pub adding_few : (table s roll : List ℕ) (n lent : ℕ) (t : Told) (after cells : List ℕ)
    → record { answer = t; out = after; cells = cells } ≡ adding table s roll n lent → Few t
adding_few table s roll n lent t after cells e =
    let a : t ≡ (adding table s roll n lent).answer = ap (λ (x : Writing). x.answer) e in
    rw a (added_few table s roll n lent)

pub adding_told : (table s roll : List ℕ) (n lent : ℕ) (t : Told) (after cells answer : List ℕ)
    → record { answer = t; out = after; cells = cells } ≡ adding table s roll n lent → answer ≡ three_of t → TellsAdding table s roll n lent after cells answer
adding_told table s roll n lent t after cells answer e told =
    (ap (λ (x : Writing). x.out) e, ap (λ (x : Writing). x.cells) e, told ∙ ap (λ (x : Writing). three_of x.answer) e)
