-- A form that is laid out on a page, written to room that is lent or not at all. Document 01, "Canonical form" and refusal 12. Assumes nothing.
use Prim.Native.Nat.{ℕ, ◌+◌, ◌-◌, ◌*◌, ◌≤◌, ◌<◌, min}
use mathlib.Core.Path.{◌≡◌, refl, sym, ap, ap₂, ◌∙◌}
use mathlib.Core.Bool.{◌&&◌}
use mathlib.Core.List.{List, [], ◌++◌, append-nil}
use native.Mathlib.Omega.{arith}
use native.Mathlib.Nat.{add-zero}
use lib.ListN.{length, take, drop, replicate, length-replicate}
use lib.Seq.{sets, sets-eq, take-append_seam}
use lib.Dec.{leb}
use borrow.Author.Tests.{le-leb, lt-leb, leb-true, leb-false}
use Rattle.std.specs.Prelude.{Result, Ok, Err}
use Rattle.paper.specs.declared.Accepted.{Accepted}
use Rattle.paper.specs.declared.Refused.{Refused}
use Rattle.paper.specs.declared.Refusal.{Refusal}
use Rattle.paper.specs.declared.Refusal.TheVariants.{NoRoom}
use Rattle.paper.specs.Answer.{Answer, accepted_at, refused_at, accepted, refused, told}
use Rattle.paper.specs.declared.Told.{Told}
use Rattle.paper.specs.Found.{Found, found, fault}
use Rattle.paper.specs.Names.{name_limit}
use Rattle.paper.specs.Modes.{read_table}
use Rattle.paper.specs.Tree.{Sheet}
use Rattle.paper.specs.Limits.{sheet_limit, concept_limit, bracket_limit, concept_fits, concept_depth, within_limits}
use Rattle.paper.specs.Entries.{Entry, entry_cells, all_cells, entries}
use Rattle.paper.specs.Reading.{room_of, sheet_of, Reading, reading}
use Rattle.paper.specs.Canonical.{canonical}
use Rattle.paper.specs.Writing.{Begun, tree, unread, begin, Writing, not_written, written_at, form_fits, write_form, writing}
use Rattle.paper.proofs.Tests.{split}
use Rattle.paper.proofs.Lists.{both}
use Rattle.paper.proofs.Numbers.{number_positive}
use Rattle.paper.proofs.Written.{root_rule}
use Rattle.paper.proofs.Exactly.{Answers, sheet_answers}
use Rattle.paper.proofs.Beginning.{Begins, begins, begins_tree, reads_tree}
use Rattle.modes.specs.Table.{Valid, modes_of}
use Rattle.entries.specs.Laid.{lay}
use Rattle.entries.proofs.Laying.{cells_length}
use Rattle.sheets.specs.Sheets.{answer_of, AnswersSheet}
use Rattle.sheets.proofs.SheetLaws.{all_zero, table_refused, count_fits, sheet_done}
use Rattle.quoting.specs.Page.{holds, full, page}
use Rattle.printing.specs.Walking.{OfSheet}
use Rattle.quoting.proofs.Putting.{page_full}
use Rattle.layout.specs.Promises.{WritesSheet, WritesUnder, FormWritten}

-- ---- a page that bytes were put on and nothing follows

page_holds : (out : List ℕ) (at : ℕ) (w : List ℕ) → at + length w ≤ length out → page out at w ≡ holds (sets out at w) (at + length w)
unfolding page
page_holds out at w h = rw (le-leb (at + length w) (length out) h)

page_ends : (out : List ℕ) (at : ℕ) → at ≤ length out → page out at [] ≡ holds out at
page_ends out at h = page_holds out at [] (omega arith) ∙ rw (add-zero at)

module _ (out after w : List ℕ) (at to : ℕ) (e : page out at w ≡ page after to []) where
  -- there was room, and these bytes stand there
  pub page_done : at + length w ≤ length out → length after ≡ length out → (after ≡ sets out at w) × (to ≡ at + length w)
  page_done h l =
      split (leb to (length after))
      (λ k. let q : holds (sets out at w) (at + length w) ≡ holds after to = sym (page_holds out at w h) ∙ e
      ∙ page_ends after to (leb-true to (length after) k) in (cc, cc))
      (λ k.
      let q : holds (sets out at w) (at + length w) ≡ full = sym (page_holds out at w h) ∙ e
      ∙ page_full after to [] (omega (arith, leb-false to (length after) k)) in
      let z : ◌≡◌ {A = ℕ} 0 1 = cc in
      absurd (omega arith))

  -- the place says whether there was
  pub page_room : length after ≡ length out → to ≤ length after → at + length w ≤ length out
  page_room l k =
      split (leb (at + length w) (length out)) (λ h. leb-true (at + length w) (length out) h)
      (λ h.
      let q : full ≡ holds after to = sym (page_full out at w (leb-false (at + length w) (length out) h)) ∙ e ∙ page_ends after to k in
      let z : ◌≡◌ {A = ℕ} 0 1 = cc in
      absurd (omega arith))

  pub page_short : length after ≡ length out → length after < to → length out < at + length w
  page_short l k =
      split (leb (at + length w) (length out))
      (λ h.
      let q : holds (sets out at w) (at + length w) ≡ full = sym (page_holds out at w (leb-true (at + length w) (length out) h)) ∙ e
      ∙ page_full after to [] (omega arith) in
      let z : ◌≡◌ {A = ℕ} 0 1 = cc in
      absurd (omega arith))
      (λ h. leb-false (at + length w) (length out) h)

-- the bytes of a page, from the first on
page_front : (out after w : List ℕ) → length w ≤ length out → after ≡ sets out 0 w → take (length w) after ≡ w
page_front out after w h e =
    ap (take (length w)) (e ∙ sets-eq w out 0 (omega arith)) ∙ take-append_seam w _

-- ---- a form that is laid out on a page, written or not

pub blank_page : length (replicate {A = ℕ} sheet_limit 0) ≡ sheet_limit
blank_page = length-replicate {A = ℕ} sheet_limit 0

pub form_fits_lem : (lent : ℕ) (out w : List ℕ) → length w ≤ min (length out) sheet_limit → write_form lent out w ≡ written_at lent out 0 w
unfolding write_form
form_fits_lem lent out w h = rw (le-leb (length w) (min (length out) sheet_limit) h, write_form)

pub form_not : (lent : ℕ) (out w : List ℕ) → min (length out) sheet_limit < length w → write_form lent out w ≡ not_written lent out 12 0
unfolding write_form
form_not lent out w h = rw (lt-leb (length w) (min (length out) sheet_limit) h, write_form)

written_is : (lent : ℕ) (out after w : List ℕ) (end : ℕ) → end ≡ 0 + length w → after ≡ w ++ drop (0 + length w) out → length w ≤ min (length out) sheet_limit
    → record { answer = accepted 0 end; out = after; cells = replicate lent 0 } ≡ write_form lent out w
written_is lent out after w end e s h =
    ap₂ (λ (n : ℕ) (o : List ℕ). record { answer = accepted 0 n; out = o; cells = replicate lent 0 }) e s ∙ sym (form_fits_lem lent out w h)

module _ (form₀ form w out : List ℕ) (end lent : ℕ) (e : page form₀ 0 w ≡ page form end []) (l : length form ≡ length form₀)
    (limit : length form₀ ≡ sheet_limit) where
  abbrev Written : Answer → List ℕ → Type 0
  Written r after = record { answer = told r; out = after; cells = replicate lent 0 } ≡ write_form lent out w

  -- where it fits, the page holds it
  laid : end ≤ sheet_limit → (form ≡ sets form₀ 0 w) × (end ≡ 0 + length w)
  laid h = page_done form₀ form w 0 end e (page_room form₀ form w 0 end e l (omega arith)) l

  too_long : min (length out) sheet_limit < end → min (length out) sheet_limit < length w
  too_long h =
      split (leb end sheet_limit) (λ k. omega (arith, (laid (leb-true end sheet_limit k)).1))
      (λ k. omega (arith, page_short form₀ form w 0 end e l (omega (arith, leb-false end sheet_limit k))))

  pub no_space_lem : min (length out) sheet_limit < end → Written (Err (refused_at NoRoom 0)) out
  no_space_lem h = sym (form_not lent out w (too_long h))

  pub form_written : end ≤ min (length out) sheet_limit → (part : List ℕ) → part ≡ take end form
      → Written (Ok (accepted_at 0 end)) (part ++ drop end out)
  form_written k part copied =
      let there = laid (omega arith) in
      let size : end ≡ length w = omega (arith, there.1) in
      let is_form : take end form ≡ w = ap (λ (n : ℕ). take n form) size ∙ page_front form₀ form w (omega arith) there.0 in
      let behind : end ≡ 0 + length w = there.1 in
      written_is lent out (part ++ drop end out) w end there.1 (ap₂ (λ (u : List ℕ) (n : ℕ). u ++ drop n out) (copied ∙ is_form) behind) (omega arith)

-- ---- writing

-- the reading that every writing begins with is refused: its answer and cells are those of every writing
pub record Passed (table s : List ℕ) (lent : ℕ) (answer : Told) (after : List ℕ) : Type 0 where
  pub number : ℕ
  pub place : ℕ
  pub begins : begin table s lent ≡ unread number place
  pub is : ◌≡◌ {A = Reading} (record { answer = answer; cells = after }) (record { answer = refused number place; cells = replicate lent 0 })

refused_passed : (table s : List ℕ) (lent : ℕ) (r : Answer) (e : Refused) → r ≡ Err e → (after : List ℕ)
    → ◌≡◌ {A = Reading} (record { answer = told r; cells = after }) (reading table s lent) → Passed table s lent (told r) after
refused_passed table s lent r f is after e = go (begin table s lent) refl (begins table s lent)
  where
    go : (x : Begun) → begin table s lent ≡ x → Begins table s lent x → Passed table s lent (told r) after
    go (tree t) b h =
        let q : told r ≡ accepted (length s) (length (entries t)) = ap (λ (x : Reading). x.answer) (e ∙ reads_tree h) in
        absurd (number_positive f.refusal (ap (λ (x : Told). x.number) (sym (ap told is) ∙ q)))
    go (unread n at) b h = record { number = n; place = at; begins = b; is = e ∙ h.is }

-- a refused reading is passed through
refused_through : (table s out : List ℕ) (lent : ℕ) (answer : Told) (after : List ℕ) → Passed table s lent answer after
    → record { answer = answer; out = out; cells = after } ≡ writing table s lent out
unfolding writing
refused_through table s out lent answer after p =
    rw (p.begins, writing) (ap (λ (x : Reading). record { answer = x.answer; out = out; cells = x.cells }) p.is)

-- a refusal counts nothing
pub none_counted : (r : Answer) (e : Refused) → r ≡ Err e → 0 ≡ (told r).count
none_counted r e is = rw is

-- every cell is zero after every answer
pub writing_cells : (table s : List ℕ) (lent : ℕ) (out : List ℕ) → (writing table s lent out).cells ≡ replicate lent 0
unfolding writing write_form
writing_cells table s lent out = by_tree (begin table s lent) refl
  where
    by_tree : (b : Begun) → begin table s lent ≡ b → (writing table s lent out).cells ≡ replicate lent 0
    by_tree (unread n at) b = rw (b, writing)
    by_tree (tree t) b = split (form_fits out (canonical t)) (λ f. rw (b, writing, write_form, f)) (λ f. rw (b, writing, write_form, f))

-- a writing is known from what it leaves
abbrev left_by : Told → List ℕ → List ℕ → Writing
left_by answer out cells = record { answer = answer; out = out; cells = cells }

writing_is : (w : Writing) (answer : Told) (out cells : List ℕ) → answer ≡ w.answer → out ≡ w.out → cells ≡ w.cells
    → record { answer = answer; out = out; cells = cells } ≡ w
writing_is w answer out cells a o c =
    ap (λ (x : Told). left_by x out cells) a ∙ ap₂ (left_by w.answer) o c

-- the cells of entries that were laid from the first on
laid_front : (cells mid : List ℕ) (es : List Entry) (count : ℕ) → count ≡ length es → length es * entry_cells ≤ length cells → mid ≡ lay cells 0 es
    → take (count * entry_cells) mid ≡ all_cells es
unfolding lay
laid_front cells mid es count many fits e =
    let size : count * entry_cells ≡ length (all_cells es) = omega (arith, cells_length es) in
    ap (take (count * entry_cells)) e ∙ ap (λ (n : ℕ). take n (sets cells 0 (all_cells es))) size
    ∙ page_front cells (sets cells 0 (all_cells es)) (all_cells es) (omega (arith, cells_length es)) refl

-- the tree that a sheet reads to, where so many cells are lent and these hold its entries
pub record Read (table s : List ℕ) (lent : ℕ) (held : List ℕ) : Type 0 where
  pub it : Sheet
  pub begins : begin table s lent ≡ tree it
  pub of : OfSheet s held it

module _ (table s cells mid out : List ℕ) (r : Answer) (a : Accepted) (valid : Valid table)
    (g : AnswersSheet s cells (sheet_of (modes_of table) (room_of (length cells)) s) (told r) mid) (same : length mid ≡ length cells)
    (is : r ≡ Ok a) where
  -- the cells of the entries are part of those that are lent
  pub cells_inside : a.count * entry_cells ≤ length mid
  cells_inside = count_fits table s cells r mid a.count g same (sym (ap (λ (x : Told). x.count) (ap told is)))

  pub tree_read : Read table s (length cells) (take (a.count * entry_cells) mid)
  unfolding within_limits
  tree_read = go (sheet_of (modes_of table) (room_of (length cells)) s) refl (sheet_answers (modes_of table) (room_of (length cells)) s) g.says
    where
      go : (x : Found Sheet) → sheet_of (modes_of table) (room_of (length cells)) s ≡ x → Answers (modes_of table) (room_of (length cells)) s x → told r
          ≡ answer_of s x → Read table s (length cells) (take (a.count * entry_cells) mid)
      go (fault n left) e h q = absurd (omega (arith, h.least, sym (ap (λ (x : Told). x.number) (sym (ap told is) ∙ q))))
      go (found t left) e h q =
          let accepts = h.1 in
          let p = both (leb (length s) sheet_limit && concept_fits name_limit bracket_limit t.root) (leb (concept_depth t.root) concept_limit) accepts.limits in
          let w = both (leb (length s) sheet_limit) (concept_fits name_limit bracket_limit t.root) p.0 in
          let many : a.count ≡ length (entries t) = ap (λ (x : Told). x.count) (sym (ap told is) ∙ q) in
          record {
            it = t;
            begins = begins_tree (record { modes = modes_of table; valid = valid; read = e ∙ ap (found t) h.0 });
            of = record {
              covers = accepts.derives.covers;
              keeps = record {
                rule = root_rule (modes_of table) t accepts.derives.rule;
                within = w.1;
                deep = leb-true (concept_depth t.root) concept_limit
                    p.1;
              };
              are = laid_front cells mid (entries t) a.count many (omega (arith, cells_inside)) (g.laid t left e);
            };
          }

  pub written : (answer : Answer) (after : List ℕ) (zeros : List ℕ) → zeros ≡ replicate (length cells) 0
      → FormWritten s (take (a.count * entry_cells) mid) out (told answer) after
      → WritesSheet table s (length cells) out answer after zeros
  unfolding writing
  written answer after zeros z f =
      let read = tree_read in
      rw (read.begins, writing, z) (f read.it (length cells) read.of)

  -- and so under a table that is in order, whatever is left in the cells
  pub under_written : (answer : Answer) (after : List ℕ) → FormWritten s (take (a.count * entry_cells) mid) out (told answer) after
      → WritesUnder table s (length cells) out (told answer) after
  under_written answer after f =
      let e = written answer after (replicate (length cells) 0) refl f in
      (ap (λ (x : Writing). x.answer) e, ap (λ (x : Writing). x.out) e)

-- a refused sheet, and a refused table, is what every writing begins with
pub sheet_passed : (table s cells mid : List ℕ) (e : Refused) → Valid table
    → AnswersSheet s cells (sheet_of (modes_of table) (room_of (length cells)) s) (told (Err e)) mid → length mid ≡ length cells
    → Passed table s (length cells) (told (Err e)) (sets mid 0 (replicate (length mid - 0) 0))
sheet_passed table s cells mid e valid g same =
    refused_passed table s (length cells) (Err e) e refl _ (sheet_done table s cells (Err e) mid 0 g same refl _ valid refl)

pub table_passed : (table s cells : List ℕ) (e : Refused) → told (Err e) ≡ read_table table
    → Passed table s (length cells) (told (Err e)) (sets cells 0 (replicate (length cells - 0) 0))
table_passed table s cells e q = refused_passed table s (length cells) (Err e) e refl _ (table_refused table s cells (Err e) e q refl _ refl)

-- it is passed through
pub under_refused : (table s out : List ℕ) (lent : ℕ) (r : Answer) (e : Refused) (zeros : List ℕ) → Passed table s lent (told (Err e)) zeros → r ≡ Err e
    → WritesUnder table s lent out (told r) out
under_refused table s out lent r e zeros p is =
    let k = refused_through table s out lent (told (Err e)) zeros p in rw is (ap (λ (x : Writing). x.answer) k, ap (λ (x : Writing). x.out) k)

-- zeros in all cells beside the answer and the bytes that a writing leaves
pub zeros_beside : (w : Writing) (cells mid after zeros : List ℕ) (answer : Told) → w.cells ≡ replicate (length cells) 0 → answer ≡ w.answer → after ≡ w.out
    → length mid ≡ length cells → zeros ≡ sets mid 0 (replicate (length mid - 0) 0) → record { answer = answer; out = after; cells = zeros } ≡ w
zeros_beside w cells mid after zeros answer none a o same z =
    writing_is w answer after zeros a o (z ∙ all_zero mid ∙ ap (λ (n : ℕ). replicate n 0) same ∙ sym none)
