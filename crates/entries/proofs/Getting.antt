-- The entry that stands at a number: what is read from the cells, and that it is the one which was laid there. Over plain lists. Assumes nothing.
use Prim.Native.Nat.{ℕ, zero, suc, ◌+◌, ◌*◌, ◌/◌, ◌≤◌, ◌<◌}
use mathlib.Core.Path.{◌≡◌, refl, sym, ap, ◌∙◌}
use mathlib.Core.Bool.{Bool, true, ◌&&◌}
use mathlib.Core.List.{List, [], ◌∷◌, ◌++◌, append_assoc}
use native.Mathlib.Omega.{arith}
use lib.ListN.{length, take, drop, get_or, length-drop}
use lib.Seq.{sets-eq, length-take-le, drop_at, drop-append-add, drop-cons, get_or-take, get_or-drop}
use lib.Dec.{leb}
use borrow.Author.Tests.{leb-true, le-leb, lt-leb}
use Rattle.std.specs.Simd.{first_chunks}
use Rattle.paper.specs.Entries.{Entry, entry_cells, cells_of, all_cells, unnamed}
use Rattle.paper.specs.View.{cell_of, viewable}
use Rattle.paper.proofs.Lists.{both}
use Rattle.entries.specs.Laid.{lay, cells_at, entry_at}
use Rattle.entries.proofs.Rows.{row_at}
use Rattle.entries.proofs.Laying.{lay_before, lay_length}

-- ---- the cells of an entry

module _ (cells : List ℕ) (n : ℕ) where
  -- the entry lies not wholly in the cells
  pub at_none : length cells < suc n * entry_cells → entry_at cells n ≡ unnamed 0 0 0 0 0 0
  unfolding entry_at
  at_none h = rw (lt-leb (suc n * entry_cells) (length cells) h)

  -- it does
  pub at_cells : suc n * entry_cells ≤ length cells → entry_at cells n ≡ cells_at cells n
  unfolding entry_at
  at_cells h = rw (le-leb (suc n * entry_cells) (length cells) h)

  -- and so does one that can be viewed
  pub at_viewed : (s : List ℕ) → viewable s cells n ≡ true → entry_at cells n ≡ cells_at cells n
  unfolding viewable
  at_viewed s v =
      let whole : Bool = leb (entry_cells * suc n) (length cells) in
      let held : whole ≡ true = (both whole _ (both (whole && _) _ (both (whole && _ && _) _ v).0).0).0 in
      at_cells (omega (arith, leb-true (entry_cells * suc n) (length cells) held))

  cell_behind : (i : ℕ) → cell_of cells n i ≡ get_or (drop (n * entry_cells) cells) i 0
  cell_behind i =
      let turned : n * entry_cells ≡ entry_cells * n = omega arith in
      rw (get_or-drop (n * entry_cells) cells i 0, turned)

  -- the row at its number, as it is read
  module _ (row : List ℕ) (h : n < length cells / entry_cells)
      (is : row ≡ get_or (first_chunks entry_cells (length cells / entry_cells) cells) n row) where
    cell_read : (i : ℕ) → i < entry_cells → get_or row i 0 ≡ cell_of cells n i
    cell_read i l =
        let there = is ∙ row_at entry_cells (length cells / entry_cells) cells n row h in
        rw there (get_or-take entry_cells (drop (n * entry_cells) cells) i 0 l) ∙ sym (cell_behind i)

    pub at_read : record {
      kind = get_or row 0 0;
      form = get_or row 1 0;
      parent = get_or row 2 0;
      count = get_or row 3 0;
      name_start = get_or row 4 0;
      name_end = get_or row 5 0;
      start = get_or row 6 0;
      end = get_or row 7 0;
    } ≡ entry_at cells n
    at_read =
        let k : (i : ℕ) → i < entry_cells → get_or row i 0 ≡ cell_of cells n i = cell_read in
        rw (
          at_cells (omega arith),
          k 0 (omega arith),
          k 1 (omega arith),
          k 2 (omega arith),
          k 3 (omega arith),
          k 4 (omega arith),
          k 5 (omega arith),
          k 6 (omega arith),
          k 7 (omega arith),
        )

  -- what stands at the entry's number, whatever is behind it
  pub at_drop : (e : Entry) (es : List Entry) (rest : List ℕ) → drop (n * entry_cells) cells ≡ all_cells (e ∷ es) ++ rest → entry_at cells n ≡ e
  unfolding all_cells
  at_drop e es rest h =
      let left : length (drop (n * entry_cells) cells) ≡ entry_cells + length (all_cells es ++ rest) = omega (arith, ap length h) in
      at_cells (omega (arith, left, length-drop (n * entry_cells) cells))
      ∙ rw (cell_behind 0, cell_behind 1, cell_behind 2, cell_behind 3, cell_behind 4, cell_behind 5, cell_behind 6, cell_behind 7, h)

-- ---- entries that were laid

pub at_laid : (cells : List ℕ) (n : ℕ) (e : Entry) (es : List Entry) → suc n * entry_cells ≤ length cells → entry_at (lay cells n (e ∷ es)) n ≡ e
unfolding lay all_cells
at_laid cells n e es h =
    let behind = lay cells (n + 1) es in
    let own : List ℕ = all_cells (e ∷ []) in
    let at : ℕ = n * entry_cells in
    let fits : at + entry_cells ≤ length behind = omega (arith, lay_length cells (n + 1) es) in
    let front : length (take at behind) ≡ at = length-take-le at behind (omega (arith, fits)) in
    let rest : List ℕ = drop (at + entry_cells) behind in
    let stands : drop at (lay behind n (e ∷ [])) ≡ own ++ rest =
    rw (sets-eq own behind at fits, append_assoc (take at behind) own rest) (drop_at (take at behind) (own ++ rest) at front) in
    rw (sym (lay_before cells n e es)) (at_drop (lay behind n (e ∷ [])) n e [] rest stands)

cells_drop : (n : ℕ) (es : List Entry) (rest : List ℕ) → n ≤ length es → drop (n * entry_cells) (all_cells es ++ rest) ≡ all_cells (drop n es) ++ rest
unfolding all_cells
cells_drop zero es rest h = refl
cells_drop (suc n) [] rest h = absurd (omega arith)
cells_drop (suc n) (e ∷ es) rest h =
    let on : suc n * entry_cells ≡ entry_cells + n * entry_cells = omega arith in
    rw on (drop-append-add (cells_of e) (all_cells es ++ rest) (n * entry_cells) ∙ cells_drop n es rest (omega arith))

-- entry number n of those that stand in the cells from the first on
pub at_all : (es : List Entry) (rest : List ℕ) (n : ℕ) (d : Entry) → n < length es → entry_at (all_cells es ++ rest) n ≡ get_or es n d
at_all es rest n d h =
    let at : drop n es ≡ get_or es n d ∷ drop (suc n) es = drop-cons es n d h in
    at_drop (all_cells es ++ rest) n (get_or es n d) (drop (suc n) es) rest (rw (cells_drop n es rest (omega arith), at))
