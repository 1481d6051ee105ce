-- Entries laid into cells from a number on, entries that stand there, and the entry that stands at a number.
-- Document 01, "Entries".
use Rattle.std.specs.Prelude.{ℕ, suc, ◌+◌, ◌*◌, ◌≤◌, ◌≡◌, List, ◌++◌, length, drop, leb}
use Rattle.std.proofs.lemmas.List.Edits.{sets}
use Rattle.paper.specs.Limits.{entry_limit}
use Rattle.paper.specs.Found.{pick}
use Rattle.paper.specs.Entries.{Entry, entry_cells, all_cells, unnamed}
use Rattle.paper.specs.View.{cell_of}
use Rattle.entries.specs.declared.Entry.{Entry as Written}
use Rattle.entries.specs.declared.Slot.{Slot}

-- the paper's entry that the code's is
abbrev pub entry_of : Written → Entry
entry_of e =
    record {
      kind = e.kind;
      form = e.form;
      parent = e.parent;
      count = e.count;
      name_start = e.name_start;
      name_end = e.name_end;
      start = e.start;
      end = e.end;
    }

-- the cells with these entries in them, the first of which has number n
unfoldable pub lay : List ℕ → ℕ → List Entry → List ℕ
lay cells n es = sets cells (n * entry_cells) (all_cells es)

-- entry number n, or one of zeros where it does not lie wholly in the cells
abbrev pub cells_at : List ℕ → ℕ → Entry
cells_at cells n =
    record {
      kind = cell_of cells n 0;
      form = cell_of cells n 1;
      parent = cell_of cells n 2;
      count = cell_of cells n 3;
      name_start = cell_of cells n 4;
      name_end = cell_of cells n 5;
      start = cell_of cells n 6;
      end = cell_of cells n 7;
    }

unfoldable pub entry_at : List ℕ → ℕ → Entry
entry_at cells n = pick (leb (suc n * entry_cells) (length cells)) (cells_at cells n) (unnamed 0 0 0 0 0 0)

-- these entries stand in the cells from number n on
pub record Stand (cells : List ℕ) (n : ℕ) (es : List Entry) : Type 0 where
  pub rest : List ℕ
  pub held : drop (n * entry_cells) cells ≡ all_cells es ++ rest

-- the kind of entry n, 0 where there is none
abbrev pub kind_at : List ℕ → ℕ → ℕ
kind_at cells n = (entry_at cells n).kind

-- the slot so many entries on, and the one behind the next entry for those that it is the parent of
abbrev pub slot_after : Slot → ℕ → Slot
slot_after at made = record { next = at.next + made; room = at.room; parent = at.parent }

abbrev pub slot_under : Slot → Slot
slot_under at = record { next = at.next + 1; room = at.room; parent = at.next }

-- the slot's room is one of the cells, and it is not past it
pub record Fits (cells : List ℕ) (at : Slot) : Type 0 where
  pub held : at.room * entry_cells ≤ length cells
  pub few : at.room ≤ entry_limit
  pub inside : at.next ≤ at.room
