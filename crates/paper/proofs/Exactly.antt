-- A sheet is accepted exactly when the grammar derives it within the limits and its entries fit; the derivation is the only one; everything else is refused.
-- Demand 2's first half, about the definitions. Assumes nothing.
use Prim.Native.Nat.{ℕ, ◌≤◌, ◌<◌}
use mathlib.Core.Path.{◌≡◌, refl, sym, ap, ◌∙◌}
use mathlib.Core.Bool.{true, ◌&&◌}
use mathlib.Core.List.{List, []}
use mathlib.Core.Logic.{◌⊎◌, inl, inr, ⊎_elim, ◌↔◌}
use native.Mathlib.Omega.{arith}
use lib.ListN.{length, drop, length-drop}
use lib.Dec.{leb, ltb}
use borrow.Author.Tests.{leb-true, le-leb, ltb-true, ltb-false, le-ltb}
use Rattle.paper.specs.Answer.{accepted, refused}
use Rattle.paper.specs.Found.{Found, found, fault, and_then, place_in}
use Rattle.paper.specs.Bytes.{sheet_bytes}
use Rattle.paper.specs.Names.{name_limit}
use Rattle.paper.specs.Modes.{Modes, ValidTable, mode_table, read_table}
use Rattle.paper.specs.Tree.{Sheet}
use Rattle.paper.specs.Grammar.{Derives}
use Rattle.paper.specs.Limits.{sheet_limit, entry_limit, concept_limit, bracket_limit, concept_fits, concept_depth, within_limits}
use Rattle.paper.specs.Entries.{Entry, entries, filled}
use Rattle.paper.specs.Reading.{bounds, sheet_tree, room_of, sheet_of, Reading, refusal, reading}
use Rattle.paper.proofs.Tests.{split}
use Rattle.paper.proofs.Lists.{both, and}
use Rattle.paper.proofs.Finds.{Tail, tail_place, AtMost, Reads}
use Rattle.paper.proofs.Scalars.{sheet_made}
use Rattle.paper.proofs.Before.{Only, table_only, table_whole, bytes_only}
use Rattle.paper.proofs.Tables.{table_exactly, table_back, table_invalid, fault_answer}
use Rattle.paper.proofs.TableSizes.{table_small}
use Rattle.paper.proofs.Sizes.{entries_size, filled_only}
use Rattle.paper.proofs.AtEnd.{cut_at_end}
use Rattle.paper.proofs.Sheets.{ReadSheet, sheet_reads, sheet_complete}

-- ---- a sheet under a valid table

-- what is found is derived, within the limits, and its entries fit
pub record Accepts (m : Modes) (room : ℕ) (s : List ℕ) (t : Sheet) : Type 0 where
  pub derives : Derives m s t
  pub limits : within_limits s t ≡ true
  pub fit : length (entries t) ≤ room

-- the order of its refusals: 2 and 3 over the whole sheet, then 4 to 11 and 18, of which a 9 is at its end
pub record SheetOrder (s : List ℕ) (number place : ℕ) : Type 0 where
  pub too_long : (number ≡ 2) ↔ (sheet_limit < length s)
  pub long_place : number ≡ 2 → place ≡ sheet_limit
  pub bad_bytes : 3 ≤ number → (number ≡ 3) ↔ ((vs : List ℕ) → sheet_bytes s ≡ found vs [] → ⊥)
  pub bytes_place : number ≡ 3 → sheet_bytes s ≡ fault 3 (drop place s)
  pub cut_place : number ≡ 9 → place ≡ length s

-- every other answer is a number from 2 to 11, or 18, at a place of the sheet
pub record Rejects (s : List ℕ) (n : ℕ) (left : List ℕ) : Type 0 where
  pub least : 2 ≤ n
  pub most : AtMost n
  pub place : place_in s left ≤ length s
  pub short : place_in s left ≤ sheet_limit
  pub order : SheetOrder s n (place_in s left)

abbrev pub Answers : Modes → ℕ → List ℕ → Found Sheet → Type 0
Answers m room s (found t left) = (left ≡ []) × Accepts m room s t
Answers m room s (fault n left) = Rejects s n left

-- each of the three sorts, at its place
long_order : (s : List ℕ) → sheet_limit < length s → SheetOrder s 2 (place_in s (drop sheet_limit s))
long_order s l =
    record {
      too_long = (λ q. l, λ q. refl);
      long_place = λ q. omega (arith, length-drop sheet_limit s);
      bad_bytes = λ k. absurd (omega arith);
      bytes_place = λ q. absurd (omega arith);
      cut_place = λ q. absurd (omega arith);
    }

bytes_order : (s : List ℕ) (n : ℕ) (left : List ℕ) → length s ≤ sheet_limit → sheet_bytes s ≡ fault n left → n ≡ 3 → Tail s left
    → SheetOrder s n (place_in s left)
bytes_order s n left l e three t =
    record {
      too_long = (λ q. absurd (omega arith), λ q. absurd (omega arith));
      long_place = λ q. absurd (omega arith);
      bad_bytes = λ k. (λ q vs f. let z : fault n left ≡ found vs [] = sym e ∙ f in let no : ◌≡◌ {A = ℕ} 0 1 = cc in omega arith, λ q. three);
      bytes_place = λ q. e ∙ ap (λ (k : ℕ). fault k left) three ∙ ap (fault 3) (tail_place s left t);
      cut_place = λ q. absurd (omega arith);
    }

tree_order : (s vs : List ℕ) (n : ℕ) (left : List ℕ) → length s ≤ sheet_limit → sheet_bytes s ≡ found vs [] → 4 ≤ n → (n ≡ 9 → left ≡ [])
    → SheetOrder s n (place_in s left)
tree_order s vs n left l e least end =
    record {
      too_long = (λ q. absurd (omega arith), λ q. absurd (omega arith));
      long_place = λ q. absurd (omega arith);
      bad_bytes = λ k. (λ q. absurd (omega arith), λ no. absurd (no vs e));
      bytes_place = λ q. absurd (omega arith);
      cut_place = λ q. omega (arith, ap length (end q));
    }

pub sheet_answers : (m : Modes) (room : ℕ) (s : List ℕ) → Answers m room s (sheet_of m room s)
unfolding sheet_of within_limits
sheet_answers m room s =
    split (ltb sheet_limit (length s))
    (λ e. rw (e, sheet_of) (long (ltb-true sheet_limit (length s) e)))
    (λ e. rw (e, sheet_of) (bytes (ltb-false sheet_limit (length s) e) (sheet_bytes s) refl (bytes_only s)))
  where
    long : sheet_limit < length s → Rejects s 2 (drop sheet_limit s)
    long l = record { least = omega arith; most = inl (omega arith); place = omega arith; short = omega (arith, length-drop sheet_limit s); order = long_order s l }

    tree : length s ≤ sheet_limit → (vs : List ℕ) → sheet_bytes s ≡ found vs [] → (x : Found Sheet) → sheet_tree m bounds concept_limit room s ≡ x
        → Reads s (λ t left. ReadSheet m bounds concept_limit room s t left) x → Answers m room s x
    tree l vs e (fault n left) f h =
        let end : n ≡ 9 → left ≡ [] = λ q. cut_at_end m bounds concept_limit room s left (f ∙ ap (λ (k : ℕ). fault k left) q) in
        let order = tree_order s vs n left l e h.least end in
        record { least = omega (arith, h.least); most = h.most; place = omega arith; short = omega arith; order = order }
    tree l vs e (found t left) f h =
        let r = h.1 in (
          r.over,
          record {
            derives = record { scalars = vs; bytes = e; covers = sym r.covers; rule = r.rule; modes = r.modes };
            limits = and (and (le-leb (length s) sheet_limit l) r.within) (le-leb _ concept_limit r.depth);
            fit = omega (arith, entries_size t, r.fits);
          },
        )

    bytes : length s ≤ sheet_limit → (x : Found (List ℕ)) → sheet_bytes s ≡ x → Only 3 s x
        → Answers m room s (and_then x (λ vs left. sheet_tree m bounds concept_limit room s))
    bytes l (fault n left) e h =
        let order = bytes_order s n left l e h.0 h.1 in
        record { least = omega (arith, h.0); most = inl (omega (arith, h.0)); place = omega arith; short = omega arith; order = order }
    bytes l (found vs left) e h =
        tree l vs (e ∙ ap (found vs) (sheet_made s vs left e).empty) (sheet_tree m bounds concept_limit room s) refl (sheet_reads m bounds concept_limit room s)

pub sheet_accepts : (m : Modes) (room : ℕ) (s : List ℕ) (t : Sheet) → Accepts m room s t → sheet_of m room s ≡ found t []
unfolding sheet_of within_limits
sheet_accepts m room s t a =
    let d = a.derives in
    let p = both (leb (length s) sheet_limit && concept_fits name_limit bracket_limit t.root) (leb (concept_depth t.root) concept_limit) a.limits in
    let q = both (leb (length s) sheet_limit) (concept_fits name_limit bracket_limit t.root) p.0 in
    rw (le-ltb sheet_limit (length s) (leb-true (length s) sheet_limit q.0), sheet_of, d.bytes)
    (ap (sheet_tree m bounds concept_limit room) (sym d.covers)
    ∙ sheet_complete m bounds concept_limit room t
    (record {
      rule = d.rule;
      modes = d.modes;
      within = q.1;
      depth = leb-true (concept_depth t.root) concept_limit p.1;
      fits = omega (arith, a.fit, entries_size t);
    }))

-- ---- accepted exactly

pub record Exactly (table s : List ℕ) (lent : ℕ) (es : List Entry) : Type 0 where
  pub modes : Modes
  pub tree : Sheet
  pub valid : ValidTable table modes
  pub derives : Derives modes s tree
  pub limits : within_limits s tree ≡ true
  pub are : entries tree ≡ es
  pub fit : length es ≤ room_of lent

-- the reading that accepts with these entries
abbrev pub accepting : List ℕ → ℕ → List Entry → Reading
accepting s lent es = record { answer = accepted (length s) (length es); cells = filled lent es }

-- the order of all refusals: 1 exactly where no modes yield the table by its rule, at the place that reading it gives; else those of the sheet
pub record InOrder (table s : List ℕ) (number place : ℕ) : Type 0 where
  pub no_table : (number ≡ 1) ↔ ((m : Modes) → ValidTable table m → ⊥)
  pub table_place : number ≡ 1 → read_table table ≡ refused 1 place
  pub of_sheet : 2 ≤ number → SheetOrder s number place

-- every other reading refuses: a number from 1 to 11, or 18, at a place of the table for 1 and of the sheet for the others, none past the longest sheet
pub record Refused (table s : List ℕ) (lent : ℕ) : Type 0 where
  pub number : ℕ
  pub place : ℕ
  pub is : reading table s lent ≡ refusal lent number place
  pub least : 1 ≤ number
  pub most : AtMost number
  pub in_table : number ≡ 1 → place ≤ length table
  pub in_sheet : 2 ≤ number → place ≤ length s
  pub short : place ≤ sheet_limit
  pub order : InOrder table s number place

-- a reading is one or the other
pub record Accepted (table s : List ℕ) (lent : ℕ) : Type 0 where
  pub list : List Entry
  pub is : reading table s lent ≡ accepting s lent list
  pub exactly : Exactly table s lent list

pub refused_otherwise : (table s : List ℕ) (lent : ℕ) → Accepted table s lent ⊎ Refused table s lent
unfolding reading read_table
refused_otherwise table s lent = by_table (mode_table table) refl (table_only table)
  where
    by_sheet : (m : Modes) → mode_table table ≡ found m [] → (x : Found Sheet) → sheet_of m (room_of lent) s ≡ x → Answers m (room_of lent) s x
        → Accepted table s lent ⊎ Refused table s lent
    by_sheet m v (found t left) e a =
        inl (record {
          list = entries t;
          is = rw (v, reading, e);
          exactly = record {
            modes = m;
            tree = t;
            valid = (table_exactly table m).0 v;
            derives = a.1.derives;
            limits = a.1.limits;
            are = refl;
            fit = a.1.fit;
          };
        })
    by_sheet m v (fault n left) e a =
        inr (record {
          number = n;
          place = place_in s left;
          is = rw (v, reading, e);
          least = omega (arith, a.least);
          most = a.most;
          in_table = λ q. absurd (omega (arith, a.least));
          in_sheet = λ q. a.place;
          short = a.short;
          order = record {
            no_table = (λ q. absurd (omega (arith, a.least)), λ no. absurd (no m ((table_exactly table m).0 v)));
            table_place = λ q. absurd (omega (arith, a.least));
            of_sheet = λ k. a.order;
          };
        })

    by_table : (x : Found Modes) → mode_table table ≡ x → Only 1 table x → Accepted table s lent ⊎ Refused table s lent
    by_table (found m left) e o = by_sheet m (e ∙ ap (found m) (table_whole table m left e)) (sheet_of m (room_of lent) s) refl (sheet_answers m (room_of lent) s)
    by_table (fault n left) e o =
        inr (record {
          number = n;
          place = place_in table left;
          is = rw (e, reading);
          least = omega (arith, o.0);
          most = inl (omega (arith, o.0));
          in_table = λ q. omega arith;
          in_sheet = λ q. absurd (omega (arith, o.0));
          short = let k : (read_table table).place ≡ place_in table left = rw (e, read_table) in omega (arith, (table_small table).0);
          order = record {
            no_table = (λ q. table_invalid table n left e, λ no. o.0);
            table_place = λ q. fault_answer table n left e;
            of_sheet = λ k. absurd (omega (arith, o.0));
          };
        })

-- not both: an acceptance has number 0
pub not_both : (table s : List ℕ) (lent : ℕ) (es : List Entry) → reading table s lent ≡ accepting s lent es → Refused table s lent → ⊥
not_both table s lent es e r = let z : 0 ≡ r.number = ap (λ (x : Reading). x.answer.number) (sym e ∙ r.is) in omega (arith, r.least)

-- the table is valid with some modes, a tree derives the sheet under them within the limits, and its entries are these and fit: exactly then
pub accepted_exactly : (table s : List ℕ) (lent : ℕ) (es : List Entry) → (reading table s lent ≡ accepting s lent es) ↔ Exactly table s lent es
unfolding reading
accepted_exactly table s lent es = (forth, back)
  where
    forth : reading table s lent ≡ accepting s lent es → Exactly table s lent es
    forth e = ⊎_elim (λ a. same a) (λ r. absurd (not_both table s lent es e r)) (refused_otherwise table s lent)
      where
        same : Accepted table s lent → Exactly table s lent es
        same a =
            let q : accepting s lent a.list ≡ accepting s lent es = sym a.is ∙ e in
            let l : length a.list ≡ length es = ap (λ (x : Reading). x.answer.count) q in
            let f : a.list ≡ es = filled_only lent a.list es l (ap (λ (x : Reading). x.cells) q) in
            let x = a.exactly in
            record { modes = x.modes; tree = x.tree; valid = x.valid; derives = x.derives; limits = x.limits; are = x.are ∙ f; fit = omega (arith, x.fit) }

    back : Exactly table s lent es → reading table s lent ≡ accepting s lent es
    back x =
        let a : Accepts x.modes (room_of lent) s x.tree = record { derives = x.derives; limits = x.limits; fit = omega (arith, x.fit, ap length x.are) } in
        rw (table_back table x.modes x.valid, reading, sheet_accepts x.modes (room_of lent) s x.tree a, x.are)

-- the numbers of every answer are small
pub reading_small : (table s : List ℕ) (lent : ℕ) → ((reading table s lent).answer.place ≤ sheet_limit) × ((reading table s lent).answer.count ≤ entry_limit)
unfolding within_limits
reading_small table s lent =
    ⊎_elim
    (λ a.
    let x = a.exactly in
    let p = both (leb (length s) sheet_limit && concept_fits name_limit bracket_limit x.tree.root) (leb (concept_depth x.tree.root) concept_limit) x.limits in
    let q = both (leb (length s) sheet_limit) (concept_fits name_limit bracket_limit x.tree.root) p.0 in
    rw a.is (leb-true (length s) sheet_limit q.0, omega (arith, x.fit)))
    (λ r. rw r.is (r.short, omega arith))
    (refused_otherwise table s lent)
