-- The invariant: all entries before are items. The measure is how many entries are left in the cells. Assumes nothing.
use Prim.Native.Nat.{ℕ, ◌-◌, ◌/◌, ◌≤◌, ◌<◌}
use mathlib.Core.Path.{◌≡◌}
use lib.ListN.{length}
use Rattle.paper.specs.Entries.{entry_cells}
use Rattle.entries.specs.Laid.{kind_at}
use Rattle.printing.proofs.markers.past_items.Given as goal

abbrev pub invariant-loop-i : goal.invariant-loop-i
invariant-loop-i l = (l.n ≤ l.i) × ((j : ℕ) → l.n ≤ j → j < l.i → kind_at l.laid.cells.now j ≡ 3)

abbrev pub decreases-loop-i : goal.decreases-loop-i
decreases-loop-i l = length l.laid.cells.now / entry_cells - l.i
