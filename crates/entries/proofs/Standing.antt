-- Entries that stand in the cells: the first of them, those before and those behind a place, and which kinds they have.
-- Over plain lists. Assumes nothing.
use Prim.Native.Nat.{ℕ, suc, ◌+◌, ◌*◌, ◌/◌, ◌≤◌, ◌<◌}
use mathlib.Core.Path.{◌≡◌, refl, sym, ap, ◌∙◌}
use mathlib.Core.Bool.{Bool, true}
use mathlib.Core.List.{List, [], ◌∷◌, ◌++◌, append_assoc}
use native.Mathlib.Omega.{arith}
use lib.ListN.{length, drop, length-append, length-drop}
use lib.Seq.{drop-drop, drop-append_seam}
use lib.Dec.{leb, eqb}
use borrow.Author.Tests.{leb-true, leb-false, eqb-true, eq-eqb}
use Rattle.paper.specs.Bytes.{all}
use Rattle.paper.specs.Values.{opener, Value, leaf, empty_bracket, bracket, More, close, comma}
use Rattle.paper.specs.Entries.{Entry, entry_cells, all_cells, item_entries, more_entries, item_size, value_width, label_width}
use Rattle.paper.proofs.Tests.{split, true_false}
use Rattle.paper.proofs.Lists.{all_head, all_append}
use Rattle.entries.specs.Laid.{entry_at, Stand, kind_at}
use Rattle.entries.proofs.Laying.{cells_length, cells_append}
use Rattle.entries.proofs.Getting.{at_none, at_drop}

module _ (cells : List ℕ) (n : ℕ) (es fs : List Entry) where
  pub stand_front : Stand cells n (es ++ fs) → Stand cells n es
  stand_front s = record {
    rest = all_cells fs ++ s.rest;
    held = s.held ∙ ap (λ (l : List ℕ). l ++ s.rest) (cells_append es fs)
        ∙ append_assoc (all_cells es) (all_cells fs) s.rest;
  }

  pub stand_back : Stand cells n (es ++ fs) → Stand cells (n + length es) fs
  stand_back s =
      let k : (n + length es) * entry_cells ≡ n * entry_cells + length (all_cells es) = omega (arith, cells_length es) in
      record {
        rest = s.rest;
        held = ap (λ (i : ℕ). drop i cells) k ∙ sym (drop-drop (length (all_cells es)) (n * entry_cells) cells)
            ∙ ap (drop (length (all_cells es))) (s.held ∙ ap (λ (l : List ℕ). l ++ s.rest) (cells_append es fs)
            ∙ append_assoc (all_cells es) (all_cells fs) s.rest)
            ∙ drop-append_seam (all_cells es) (all_cells fs ++ s.rest);
      }

-- the first of them is the entry that is read
pub stand_entry : (cells : List ℕ) (n : ℕ) (e : Entry) (es : List Entry) → Stand cells n (e ∷ es) → entry_at cells n ≡ e
stand_entry cells n e es s = at_drop cells n e es s.rest s.held

pub stand_inside : (cells : List ℕ) (n : ℕ) (e : Entry) (es : List Entry) → Stand cells n (e ∷ es) → n < length cells / entry_cells
unfolding all_cells
stand_inside cells n e es s = omega (arith, ap length s.held, length-append (all_cells es) s.rest, length-drop (n * entry_cells) cells)

-- an entry that has a kind is one of those in the cells
pub kind_inside : (cells : List ℕ) (n : ℕ) → 0 < kind_at cells n → n < length cells / entry_cells
kind_inside cells n h =
    split (leb (suc n * entry_cells) (length cells))
    (λ e. omega (arith, leb-true (suc n * entry_cells) (length cells) e))
    (λ e. absurd (omega (arith, ap (λ (x : Entry). x.kind) (at_none cells n (leb-false (suc n * entry_cells) (length cells) e)))))

-- entries of one kind
abbrev pub of_kind : ℕ → Entry → Bool
of_kind k e = eqb e.kind k

pub kinds_between : (cells : List ℕ) (k : ℕ) (es : List Entry) (n : ℕ) → Stand cells n es → all (of_kind k) es ≡ true → (j : ℕ) → n ≤ j → j < n + length es
    → kind_at cells j ≡ k
kinds_between cells k [] n s a j l h = absurd (omega arith)
kinds_between cells k (e ∷ es) n s a j l h =
    let b = all_head (of_kind k) e es a in
    split (eqb j n)
    (λ q. ap (λ (i : ℕ). kind_at cells i) (eqb-true j n q) ∙ ap (λ (x : Entry). x.kind) (stand_entry cells n e es s) ∙ eqb-true e.kind k b.0)
    (λ q.
    let further : j ≡ n → ⊥ = λ z. true_false (sym (eq-eqb j n z) ∙ q) in
    let above : n + 1 ≤ j = omega arith in
    kinds_between cells k es (n + 1) (stand_back cells n (e ∷ []) es s) b.1 j above (omega arith))

-- the items of a value are all of kind 3
mutual
  unfolding item_entries all

  pub item_kinds : (v : Value) (parent next at : ℕ) → all (of_kind 3) (item_entries parent next at v) ≡ true
  item_kinds (leaf v) parent next at = refl
  item_kinds (empty_bracket k) parent next at = refl
  item_kinds (bracket k a v more) parent next at =
      let start = at + length (opener k) + label_width a in
      all_append (of_kind 3) (item_entries next (next + 1) start v) (more_entries parent (next + 1 + item_size v) (start + value_width v) more)
      (item_kinds v next (next + 1) start) (more_kinds more parent (next + 1 + item_size v) (start + value_width v))

  more_kinds : (more : More) (parent next at : ℕ) → all (of_kind 3) (more_entries parent next at more) ≡ true
  more_kinds close parent next at = refl
  more_kinds (comma white a v more) parent next at =
      let start = at + 1 + length white + label_width a in
      all_append (of_kind 3) (item_entries next (next + 1) start v) (more_entries parent (next + 1 + item_size v) (start + value_width v) more)
      (item_kinds v next (next + 1) start) (more_kinds more parent (next + 1 + item_size v) (start + value_width v))
