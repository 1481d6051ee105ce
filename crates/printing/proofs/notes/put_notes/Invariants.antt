-- The invariant: what is left of the annotations stands from entry `next` on. The measure is what is left of the cells. Assumes nothing.
use Prim.Native.Nat.{ℕ, ◌+◌, ◌-◌, ◌≤◌}
use mathlib.Core.Path.{◌≡◌}
use mathlib.Core.List.{List}
use lib.ListN.{length}
use Rattle.paper.specs.Tree.{Annotation}
use Rattle.entries.specs.Laid.{kind_at}
use Rattle.printing.specs.Walking.{OfNotes}
use Rattle.printing.proofs.NoteLaws.{NotesLeft}
use Rattle.printing.proofs.notes.put_notes.Given as goal

abbrev pub invariant-loop-page : goal.invariant-loop-page
invariant-loop-page l = (l.n ≤ l.next) ×
    ((parent place : ℕ) (notes : List Annotation) → OfNotes l.laid.s.now l.laid.cells.now l.n parent place notes
    → (kind_at l.laid.cells.now (l.n + length notes) ≡ 4 → ⊥)
    → NotesLeft l.laid.s.now l.laid.cells.now l.depth (l.n + length notes) l.initial.page notes l.next l.page)

abbrev pub decreases-loop-page : goal.decreases-loop-page
decreases-loop-page l = length l.laid.cells.now - l.next
