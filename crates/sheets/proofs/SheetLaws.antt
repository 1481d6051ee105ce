-- A whole sheet: a law for each way out of the functions of src/lib.rt that read one.
-- Over plain lists. Assumes nothing.
use Prim.Native.Nat.{ℕ, ◌+◌, ◌-◌, ◌*◌, ◌≤◌, ◌<◌}
use mathlib.Core.Path.{◌≡◌, refl, sym, ap, ap₂, ◌∙◌}
use mathlib.Core.List.{List, []}
use mathlib.Core.Logic.{◌⊎◌, inl, inr}
use native.Mathlib.Omega.{arith}
use lib.ListN.{length, drop, replicate, length-drop}
use lib.Seq.{sets}
use lib.Dec.{ltb}
use borrow.Author.Tests.{lt-ltb, le-ltb}
use Rattle.std.specs.Prelude.{Result, Ok, Err}
use Rattle.paper.specs.declared.Accepted.{Accepted}
use Rattle.paper.specs.declared.Refused.{Refused}
use Rattle.paper.specs.Answer.{Answer, accepted, refused, number_of, told}
use Rattle.paper.specs.declared.Told.{Told}
use Rattle.paper.specs.Found.{Found, found, fault, and_then, place_in}
use Rattle.paper.specs.Bytes.{is_blank, front, behind, sheet_bytes}
use Rattle.paper.specs.Modes.{Modes, mode_table, read_table}
use Rattle.paper.specs.Limits.{sheet_limit, concept_limit}
use Rattle.paper.specs.Tree.{Blank, Annotated, Sheet}
use Rattle.paper.specs.Grammar.{blanks_onto}
use Rattle.paper.specs.Entries.{no_parent, entry_cells, sheet_size, entries, filled, all_cells}
use Rattle.paper.specs.Reading.{blank_lines, is_tab, tabs_only, annotated_of, last_blanks, sheet_tree, room_of, sheet_of, Reading, reading, bounds}
use Rattle.paper.proofs.Numbers.{number_positive}
use Rattle.paper.proofs.Tests.{split}
use Rattle.paper.proofs.Finds.{Finds, Reads}
use Rattle.paper.proofs.Lines.{ReadBlanks, blanks_reads, only_reads}
use Rattle.paper.proofs.Concepts.{annotated_reads}
use Rattle.paper.proofs.Sheets.{ReadSheet, sheet_reads}
use Rattle.paper.proofs.Before.{Only, bytes_only}
use Rattle.paper.proofs.Sizes.{entries_size}
use Rattle.text.proofs.Places.{place_back}
use Rattle.text.specs.Steps.{broken, checked_of, checked}
use Rattle.modes.specs.Table.{Valid, modes_of}
use Rattle.modes.proofs.Answered.{number_told}
use Rattle.entries.specs.Laid.{lay}
use Rattle.entries.proofs.Laying.{lay_none, lay_filled}
use Rattle.lines.specs.Parts.{seen, entryless, reached, passed, Makes}
use Rattle.lines.specs.declared.part.Part.{Part}
use Rattle.lines.proofs.Crossing.{seen_map, FoundAt, found_at_lem, reached_at, fault_at, refused_then, makes_passed, makes_read}
use Rattle.lines.proofs.Lengths.{blanks_long}
use Rattle.sheets.specs.Concepts.{Ready, annotated_size, annotated_count, annotated_entries}
use Rattle.sheets.specs.Sheets.{answer_of, AnswersSheet, root_count, behind_root}

-- ---- blank lines, by their place

module _ (s : List ℕ) (at : ℕ) where
  pub blanks_refused : (e : Refused) → seen (Err e) ≡ passed s (blank_lines (drop at s)) → (r : Result ℕ Refused) → r ≡ Err e
      → reached r ≡ passed s (behind_root (drop at s))
  blanks_refused e k r q =
      refused_then (λ b. 0) (λ b. 0) s (entryless r) (λ b. 0) (λ b. 0) (λ after left. last_blanks (front is_blank left) (behind is_blank left))
      (blank_lines (drop at s)) e k (ap entryless q)

  module _ (h : at ≤ length s) (end : ℕ) (e : reached (Ok end) ≡ passed s (blank_lines (drop at s))) where
    blanks_found : FoundAt (λ b. 0) (λ b. 0) (λ bs left. ReadBlanks (drop at s) bs left) s at (blank_lines (drop at s)) end 0 0
    blanks_found = reached_at _ s at (blank_lines (drop at s)) (Ok end) end e (blanks_reads (drop at s)) h refl

    pub blanks_inside : end ≤ length s
    blanks_inside = blanks_found.inside

    pub blanks_last : (r : Result ℕ Refused) → reached r ≡ passed s (last_blanks (front is_blank (drop end s)) (behind is_blank (drop end s)))
        → reached r ≡ passed s (behind_root (drop at s))
    blanks_last r g = rw blanks_found.finds g

-- ---- the root of a sheet, and what is read behind it

module _ (before : List Blank) (a : Annotated) where
  abbrev whole : List Blank → List ℕ → Sheet
  whole after last = record { before = before; annotations = a.notes; tabs = a.tabs; root = a.concept; after = after; last = last }

  abbrev closed : List Blank → Found (List ℕ) → Found Sheet
  closed after x = and_then x (λ last end. found (whole after last) end)

  abbrev ended : List ℕ → Found Sheet
  ended left = and_then (blank_lines left) (λ after left. closed after (last_blanks (front is_blank left) (behind is_blank left)))

  -- the blanks are passed alike, whether the sheet is made or not
  rest_alike : (s left : List ℕ) → passed s (behind_root left) ≡ passed s (ended left)
  rest_alike s left = by_lines (blank_lines left)
    where
      by_lines : (x : Found (List Blank))
          → passed s (and_then x (λ after left. last_blanks (front is_blank left) (behind is_blank left)))
          ≡ passed s (and_then x (λ after left. closed after (last_blanks (front is_blank left) (behind is_blank left))))
      by_lines (found after left) = sym (seen_map (λ t. 0) (λ t. 0) s (whole after) (last_blanks (front is_blank left) (behind is_blank left)))
      by_lines (fault n left) = refl

  -- a sheet of this root
  record Rooted (t : Sheet) : Type 0 where
    pub size : sheet_size t ≡ annotated_size a
    pub count : root_count t ≡ annotated_count a
    pub are : entries t ≡ annotated_entries no_parent 0 (length (blanks_onto before [])) a

  whole_rooted : (after : List Blank) (last : List ℕ) → Rooted (whole after last)
  unfolding sheet_size entries
  whole_rooted after last = let z : 0 + length a.notes ≡ length a.notes = omega arith in record { size = refl; count = refl; are = rw z }

  ended_rooted : (left : List ℕ) (t : Sheet) (end : List ℕ) → ended left ≡ found t end → Rooted t
  ended_rooted left t end = by_lines (blank_lines left)
    where
      by_last : (after : List Blank) (x : Found (List ℕ)) → closed after x ≡ found t end → Rooted t
      by_last after (found last left) e = let q : whole after last ≡ t = cc in rw q at (whole_rooted after last)
      by_last after (fault n left) e = let z : ◌≡◌ {A = ℕ} 0 1 = cc in absurd (omega arith)

      by_lines : (x : Found (List Blank)) → and_then x (λ after left. closed after (last_blanks (front is_blank left) (behind is_blank left))) ≡ found t end → Rooted t
      by_lines (found after left) e = by_last after (last_blanks (front is_blank left) (behind is_blank left)) e
      by_lines (fault n left) e = let z : ◌≡◌ {A = ℕ} 0 1 = cc in absurd (omega arith)

-- ---- the tree of a sheet

module _ (m : Modes) (s cells : List ℕ) where
  abbrev tree : Found Sheet
  tree = sheet_tree m bounds concept_limit (room_of (length cells)) s

  abbrev Grows : Result Part Refused → List ℕ → Type 0
  Grows r after = Makes sheet_size root_count entries s cells 0 tree r after

  -- what is read behind the blank lines before the root, and behind its tabs
  abbrev rooted : List Blank → List ℕ → Found Sheet
  rooted before first = and_then (annotated_of m bounds concept_limit (room_of (length cells)) first) (ended before)

  abbrev led : List Blank → List ℕ → Found Sheet
  led before first = and_then (tabs_only first) (λ tabs mark. rooted before first)

  by_blanks : tree ≡ and_then (blank_lines s) led
  unfolding sheet_tree
  by_blanks = refl

  -- the root is due at a place, behind blank lines
  pub record Led (first : ℕ) : Type 0 where
    pub before : List Blank
    pub starts : first ≡ length (blanks_onto before [])
    pub inside : first ≤ length s
    pub same : tree ≡ rooted before (drop first s)

  pub before_refused : (e : Refused) → seen (Err e) ≡ passed s (blank_lines (drop 0 s)) → {r : Result Part Refused} → r ≡ Err e → (after : List ℕ) → Grows r after
  before_refused e k {r} q after =
      makes_passed sheet_size root_count entries s cells 0 tree r after (λ b. 0) (λ b. 0) (λ x. and_then x led) (λ k left. refl) (blank_lines s) e k q by_blanks

  module _ (first : ℕ) (e : reached (Ok first) ≡ passed s (blank_lines (drop 0 s))) where
    it : FoundAt (λ b. 0) (λ b. 0) (λ bs left. ReadBlanks s bs left) s 0 (blank_lines s) first 0 0
    it = blanks_found s 0 (omega arith) first e

    by_tabs : tree ≡ led it.it (drop first s)
    by_tabs = by_blanks ∙ ap (λ (x : Found (List Blank)). and_then x led) it.finds

    pub tabs_refused : (w : Refused) → seen (Err w) ≡ passed s (tabs_only (drop first s)) → {r : Result Part Refused} → r ≡ Err w → (after : List ℕ) → Grows r after
    tabs_refused w f {r} q after =
        makes_passed sheet_size root_count entries s cells 0 tree r after (λ n. 0) (λ n. 0) (λ x. and_then x (λ n mark. rooted it.it (drop first s)))
        (λ k left. refl) (tabs_only (drop first s)) w f q by_tabs

    pub tabs_led : (mark : ℕ) → reached (Ok mark) ≡ passed s (tabs_only (drop first s)) → Led first
    tabs_led mark f =
        let t =
        reached_at (λ n left. left ≡ behind is_tab (drop first s)) s first (tabs_only (drop first s)) (Ok mark) mark f (only_reads (drop first s)) it.inside refl in
        record {
          before = it.it;
          starts = omega (arith, ap length it.holds.covers, blanks_long it.it (drop first s), length-drop first s, it.inside);
          inside = it.inside;
          same = by_tabs ∙ ap (λ (x : Found ℕ). and_then x (λ n mark. rooted it.it (drop first s))) t.finds;
        }

  -- the root was read to an end, and its entries are laid
  pub record RootAt (end made own : ℕ) (after : List ℕ) : Type 0 where
    pub before : List Blank
    pub root : Annotated
    pub inside : end ≤ length s
    pub same : tree ≡ ended before root (drop end s)
    pub size : made ≡ annotated_size root
    pub count : own ≡ annotated_count root
    pub laid : after ≡ lay cells 0 (annotated_entries no_parent 0 (length (blanks_onto before [])) root)

  module _ (first : ℕ) (l : Led first) (deeper room : ℕ) (deep : deeper ≡ concept_limit) (lent : room ≡ room_of (length cells)) (r : Result Part Refused) (after : List ℕ)
      (g : Makes annotated_size annotated_count (annotated_entries no_parent 0 first) s cells 0
      (annotated_of m bounds deeper (room - 0) (drop first s)) r after) where
    abbrev reads : Found Annotated
    reads = annotated_of m bounds concept_limit (room_of (length cells)) (drop first s)

    roots : Makes annotated_size annotated_count (annotated_entries no_parent 0 first) s cells 0 reads r after
    roots = let n : room - 0 ≡ room_of (length cells) = omega arith in rw (deep, n) at g

    pub root_refused : (e : Refused) → r ≡ Err e → {last : Result Part Refused} → last ≡ Err e → Grows last after
    root_refused e p {last} q =
        makes_passed sheet_size root_count entries s cells 0 tree last after annotated_size annotated_count (λ x. and_then x (ended l.before)) (λ k left. refl) reads e
        (ap seen (sym p) ∙ roots.says) q l.same

    pub root_read : (p : Part) → r ≡ Ok p → RootAt p.end p.made p.own after
    root_read p q =
        let t = found_at_lem annotated_size annotated_count s r _ first reads p roots.says
        (annotated_reads m bounds concept_limit (room_of (length cells)) (drop first s)) l.inside q in
        record {
          before = l.before;
          root = t.it;
          inside = t.inside;
          same = l.same ∙ ap (λ (x : Found Annotated). and_then x (ended l.before)) t.finds;
          size = sym t.many;
          count = sym t.owned;
          laid = roots.laid t.it (drop p.end s) t.finds ∙ ap (λ (k : ℕ). lay cells 0 (annotated_entries no_parent 0 k t.it)) l.starts;
        }

  module _ (end made own : ℕ) (after : List ℕ) (root : RootAt end made own after) where
    rests : (r : Result ℕ Refused) → reached r ≡ passed s (behind_root (drop end s)) → reached r ≡ passed s tree
    rests r e = e ∙ rest_alike root.before root.root s (drop end s) ∙ ap (passed s) (sym root.same)

    pub rest_refused : (w : Refused) → seen (Err w) ≡ passed s (behind_root (drop end s)) → {r : Result Part Refused} → r ≡ Err w → Grows r after
    rest_refused w k {r} q =
        makes_passed sheet_size root_count entries s cells 0 tree r after (λ t. 0) (λ t. 0) (λ x. x) (λ k left. refl) tree w (rests (Err w) k) q refl

    pub tree_read : (last : ℕ) → reached (Ok last) ≡ passed s (behind_root (drop end s)) → Grows (Ok (record { end = last; made = made; own = own })) after
    tree_read last k =
        let t = reached_at (λ t left. ReadSheet m bounds concept_limit (room_of (length cells)) s t left) s 0 tree (Ok last) last (rests (Ok last) k)
        (sheet_reads m bounds concept_limit (room_of (length cells)) s) (omega arith) refl in
        let of = ended_rooted root.before root.root (drop end s) t.it (drop last s) (sym root.same ∙ t.finds) in
        makes_read sheet_size root_count entries s cells 0 tree (Ok (record { end = last; made = made; own = own })) after t.it _ refl t.inside t.finds
        (root.size ∙ sym of.size) (root.count ∙ sym of.count)
        (root.laid ∙ ap (lay cells 0) (sym of.are))

-- the root is read with the room that the cells have
pub root_stands : (s cells : List ℕ) (first room : ℕ) → length s ≤ sheet_limit → first ≤ length s → room ≡ room_of (length cells)
    → Ready s first cells (record { next = 0; room = room; parent = no_parent })
root_stands s cells first room l h e =
    record {
      in_sheet = record { within = l; inside = h };
      fits = record { held = omega arith; few = omega arith; inside = omega arith };
    }

-- ---- a sheet under a valid table

-- what is found fits the room
finds_fits : (m : Modes) (room : ℕ) (s : List ℕ) → Finds (λ t left. length (entries t) ≤ room) (sheet_of m room s)
unfolding sheet_of
finds_fits m room s = split (ltb sheet_limit (length s)) (λ e. rw (e, sheet_of) tt) (λ e. rw (e, sheet_of) (by_bytes (sheet_bytes s)))
  where
    by_tree : (x : Found Sheet) → Reads s (λ t left. ReadSheet m bounds concept_limit room s t left) x → Finds (λ t left. length (entries t) ≤ room) x
    by_tree (found t left) h = omega (arith, h.1.fits, entries_size t)
    by_tree (fault n left) h = tt

    by_bytes : (x : Found (List ℕ)) → Finds (λ t left. length (entries t) ≤ room) (and_then x (λ vs left. sheet_tree m bounds concept_limit room s))
    by_bytes (found vs left) = by_tree (sheet_tree m bounds concept_limit room s) (sheet_reads m bounds concept_limit room s)
    by_bytes (fault n left) = tt

module _ (m : Modes) (s cells : List ℕ) where
  abbrev sheet : Found Sheet
  sheet = sheet_of m (room_of (length cells)) s

  faulty : (answer : Told) (after : List ℕ) (n : ℕ) (left : List ℕ) → sheet ≡ fault n left → answer ≡ refused n (place_in s left) → AnswersSheet s cells sheet answer after
  faulty answer after n left f e = record { says = e ∙ ap (answer_of s) (sym f); laid = λ t end g. let z : ◌≡◌ {A = ℕ} 0 1 = cc in absurd (omega arith) }

  pub sheet_long : (after : List ℕ) → sheet_limit < length s → AnswersSheet s cells sheet (refused 2 sheet_limit) after
  unfolding sheet_of
  sheet_long after h =
      faulty (refused 2 sheet_limit) after 2 (drop sheet_limit s) (rw (lt-ltb sheet_limit (length s) h, sheet_of))
      (ap (refused 2) (sym (place_back s sheet_limit (omega arith))))

  module _ (h : length s ≤ sheet_limit) where
    abbrev tree_of : Found (List ℕ) → Found Sheet
    tree_of x = and_then x (λ vs left. tree m s cells)

    by_bytes : sheet ≡ tree_of (sheet_bytes s)
    unfolding sheet_of
    by_bytes = rw (le-ltb sheet_limit (length s) h, sheet_of)

    pub sheet_broken : (after : List ℕ) (e : Refused) → ◌≡◌ {A = Result Unit Refused} (Err e) (checked s)
        → AnswersSheet s cells sheet (refused (number_of e.refusal) e.place) after
    sheet_broken after e = go (sheet_bytes s) refl (bytes_only s)
      where
        go : (x : Found (List ℕ)) → sheet_bytes s ≡ x → Only 3 s x → ◌≡◌ {A = Result Unit Refused} (Err e) (checked_of s x)
            → AnswersSheet s cells sheet (refused (number_of e.refusal) e.place) after
        go (found vs left) q o k = let z : ◌≡◌ {A = ℕ} 0 1 = cc in absurd (omega arith)
        go (fault n left) q o k =
            let p : e ≡ broken (place_in s left) = cc in
            rw p (faulty (refused 3 (place_in s left)) after n left (by_bytes ∙ ap tree_of q) (rw o.0))

    module _ (e : ◌≡◌ {A = Result Unit Refused} (Ok tt) (checked s)) where
      by_tree : sheet ≡ tree m s cells
      by_tree = by_bytes ∙ go (sheet_bytes s) e
        where
          go : (x : Found (List ℕ)) → ◌≡◌ {A = Result Unit Refused} (Ok tt) (checked_of s x) → tree_of x ≡ tree m s cells
          go (found vs left) e = refl
          go (fault n left) e = let z : ◌≡◌ {A = ℕ} 0 1 = cc in absurd (omega arith)

      module _ (r : Result Part Refused) (after : List ℕ) (g : Makes sheet_size root_count entries s cells 0 (tree m s cells) r after) where
        pub sheet_refused : (e : Refused) → r ≡ Err e → AnswersSheet s cells sheet (refused (number_of e.refusal) e.place) after
        sheet_refused e q =
            let f = fault_at sheet_size root_count s r (tree m s cells) e g.says q in
            faulty (refused (number_of e.refusal) e.place) after (number_of e.refusal) f.left (by_tree ∙ f.faults) (ap (refused (number_of e.refusal)) (sym f.there))

        -- nothing is left behind a sheet: it ends at its length
        pub sheet_read : (p : Part) → r ≡ Ok p → AnswersSheet s cells sheet (accepted p.end p.made) after
        sheet_read p q =
            let t = found_at_lem sheet_size root_count s r (λ t left. ReadSheet m bounds concept_limit (room_of (length cells)) s t left) 0
            (tree m s cells) p g.says (sheet_reads m bounds concept_limit (room_of (length cells)) s) (omega arith) q in
            let l : p.end ≡ length s = omega (arith, ap length t.holds.over, length-drop p.end s, t.inside) in
            let n : p.made ≡ length (entries t.it) = sym t.many ∙ sym (entries_size t.it) in
            record { says = ap₂ accepted l n ∙ ap (answer_of s) (sym t.finds ∙ sym by_tree); laid = λ a left k. g.laid a left (sym by_tree ∙ k) }

-- ---- the whole reading

abbrev answers : Told → List ℕ → Reading
answers a after = record { answer = a; cells = after }

pub all_zero : (cells : List ℕ) → sets cells 0 (replicate (length cells - 0) 0) ≡ replicate (length cells) 0
unfolding filled all_cells
all_zero cells =
    let z : length cells - 0 ≡ length cells = omega arith in
    rw z (rw (lay_none cells 0, z) at (lay_filled cells [] (omega arith)))

module _ (table s cells : List ℕ) where
  pub table_refused : (a : Answer) (w : Refused) → told a ≡ read_table table → a ≡ Err w → (after : List ℕ)
      → after ≡ sets cells 0 (replicate (length cells - 0) 0)
      → answers (told a) after ≡ reading table s (length cells)
  unfolding reading read_table
  table_refused a w e q after z = go (mode_table table) refl
    where
      go : (x : Found Modes) → mode_table table ≡ x → answers (told a) after ≡ reading table s (length cells)
      go (found m left) f = absurd (number_positive w.refusal (number_told (rw (q, read_table, f) at e)))
      go (fault n left) f = rw (f, reading) (ap₂ answers (rw (read_table, f) at e) (z ∙ all_zero cells))

  module _ (r : Answer) (mid : List ℕ) (count : ℕ) (g : AnswersSheet s cells (sheet (modes_of table) s cells) (told r) mid) (same : length mid ≡ length cells)
      (n : count ≡ (told r).count) where
    pub count_fits : count * entry_cells ≤ length mid
    count_fits = go (sheet (modes_of table) s cells) (finds_fits (modes_of table) (room_of (length cells)) s) g.says
      where
        go : (x : Found Sheet) → Finds (λ t left. length (entries t) ≤ room_of (length cells)) x → told r ≡ answer_of s x → count * entry_cells ≤ length mid
        go (found t left) h e = omega (arith, h, ap (λ (a : Told). a.count) e)
        go (fault k left) h e = omega (arith, ap (λ (a : Told). a.count) e)

    pub sheet_done : (after : List ℕ) → Valid table → after ≡ sets mid (count * entry_cells) (replicate (length mid - count * entry_cells) 0)
        → answers (told r) after ≡ reading table s (length cells)
    unfolding reading
    sheet_done after v z = go (sheet (modes_of table) s cells) refl g.says
      where
        cleared : (t : Sheet) → mid ≡ lay cells 0 (entries t) → count ≡ length (entries t)
            → sets mid (count * entry_cells) (replicate (length mid - count * entry_cells) 0)
            ≡ sets (lay cells 0 (entries t)) (length (entries t) * entry_cells) (replicate (length cells - length (entries t) * entry_cells) 0)
        cleared t l many = rw (same, l, many)

        go : (x : Found Sheet) → sheet (modes_of table) s cells ≡ x → told r ≡ answer_of s x → answers (told r) after ≡ reading table s (length cells)
        go (found t left) f e =
            let many : count ≡ length (entries t) = n ∙ ap (λ (a : Told). a.count) e in
            rw (v, reading, f) (ap₂ answers e (z ∙ cleared t (g.laid t left f) many ∙ lay_filled cells (entries t) (omega (arith, count_fits))))
        go (fault k left) f e =
            let none : count ≡ 0 = n ∙ ap (λ (a : Told). a.count) e in
            rw (
              v,
              reading,
              f,
            ) (ap₂ answers e (z ∙ ap (λ (k : ℕ). sets mid (k * entry_cells) (replicate (length mid - k * entry_cells) 0)) none ∙ all_zero mid ∙ ap
            (λ (k : ℕ). replicate k 0) same))

  -- the table is refused, and no cell is written; or it is in order, and the sheet is read under it
  abbrev pub Answered : Answer → List ℕ → Type 0
  Answered r mid =
      ((w : Refused) × (r ≡ Err w) × (told r ≡ read_table table) × (mid ≡ cells))
      ⊎ (Valid table × AnswersSheet s cells (sheet (modes_of table) s cells) (told r) mid × (length mid ≡ length cells))

  -- what `read_into` does not accept it refuses
  pub not_accepted : (a r : Answer) (mid : List ℕ) → ((n : Accepted) → a ≡ Ok n → ⊥) → told a ≡ read_table table → r ≡ a → mid ≡ cells → Answered r mid
  not_accepted (Ok n) r mid k e q m = absurd (k n refl)
  not_accepted (Err w) r mid k e q m = inl (w, q, ap told q ∙ e, m)

  none_made : {r : Answer} {w : Refused} {count : ℕ} → count ≡ (told r).count → r ≡ Err w → count ≡ 0
  none_made n q = n ∙ ap (λ (r : Answer). (told r).count) q

  pub answered_fits : {r : Answer} {mid : List ℕ} → Answered r mid → {count : ℕ} → count ≡ (told r).count → count * entry_cells ≤ length mid
  answered_fits (inl h) n = omega (arith, none_made n h.1)
  answered_fits {r} {mid} (inr h) {count} n = count_fits r mid count h.1 h.2 n

  pub answered_done : {r : Answer} {mid : List ℕ} → Answered r mid → {count : ℕ} → count ≡ (told r).count → {after : List ℕ}
      → after ≡ sets mid (count * entry_cells) (replicate (length mid - count * entry_cells) 0) → answers (told r) after ≡ reading table s (length cells)
  answered_done {r} (inl h) n {after} z =
      table_refused r h.0 h.2 h.1 after
      (z ∙ ap₂ (λ (k : ℕ) (l : List ℕ). sets l (k * entry_cells) (replicate (length l - k * entry_cells) 0)) (none_made n h.1) h.3)
  answered_done {r} {mid} (inr h) {count} n {after} z = sheet_done r mid count h.1 h.2 n after h.0 z
