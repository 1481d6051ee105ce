-- The value view: the part of a sheet that a numbered entry's span names, or 17.
-- Document 01, "Entries" and refusal 17.
use Rattle.std.specs.Prelude.{ℕ, suc, ◌+◌, ◌-◌, ◌*◌, Bool, true, false, not, ◌&&◌, List, [], length, take, drop, get_or, leb, eqb}
use Rattle.paper.specs.Answer.{accepted, refused}
use Rattle.paper.specs.declared.Told.{Told}
use Rattle.paper.specs.Entries.{entry_cells}

-- the cell of an entry
abbrev pub cell_of : List ℕ → ℕ → ℕ → ℕ
cell_of cells n cell = get_or cells (entry_cells * n + cell) 0

abbrev pub span_start : List ℕ → ℕ → ℕ
span_start cells n = cell_of cells n 6

abbrev pub span_end : List ℕ → ℕ → ℕ
span_end cells n = cell_of cells n 7

-- the entry lies wholly in the cells, has a kind, and its span lies in the sheet and is not reversed
unfoldable pub viewable : List ℕ → List ℕ → ℕ → Bool
viewable s cells n =
    leb (entry_cells * suc n) (length cells) && not (eqb (cell_of cells n 0) 0) && leb (span_start cells n) (span_end cells n) && leb (span_end cells n) (length s)

-- the part, empty where it is refused
unfoldable pub viewed : List ℕ → List ℕ → ℕ → List ℕ
viewed s cells n = elim (viewable s cells n) [ true ↦ take (span_end cells n - span_start cells n) (drop (span_start cells n) s) | false ↦ [] ]

-- the second call's answer: 0, 0 and the part's length, or 17
unfoldable pub view_answer : List ℕ → List ℕ → ℕ → Told
view_answer s cells n = elim (viewable s cells n) [ true ↦ accepted 0 (span_end cells n - span_start cells n) | false ↦ refused 17 0 ]
