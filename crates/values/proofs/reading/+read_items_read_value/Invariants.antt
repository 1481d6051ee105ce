-- A law for each way out. The loop goes on as what is shown from the next item on is shown from the first; one bracket deeper, fewer may be opened.
use Prim.Native.Nat.{◌+◌, ◌-◌, ◌*◌, ◌≤◌}
use mathlib.Core.Path.{◌≡◌}
use lib.ListN.{length, drop}
use Rattle.paper.specs.Values.{bracket}
use Rattle.paper.specs.ReadingValues.{item_and}
use Rattle.leaves.specs.Shown.{shown_of}
use Rattle.values.specs.Brackets.{form_in}
use Rattle.values.proofs.reading.+read_items_read_value.Given as goal

abbrev pub decreases-read_items : goal.decreases-read_items
decreases-read_items l = 2 * l.nesting.left + 1

abbrev pub decreases-read_value : goal.decreases-read_value
decreases-read_value l = 2 * l.nesting.left

abbrev pub invariant-read_items-loop-value : goal.invariant-read_items-loop-value
invariant-read_items-loop-value l = (l.at ≤ l.i) × (l.i ≤ length l.s)
    × (shown_of (form_in l.kind) l.s (item_and l.kind l.nesting.left (bracket l.kind) (drop l.i l.s))
    ≡ shown_of (form_in l.kind) l.s (item_and l.kind l.nesting.left (bracket l.kind) (drop l.at l.s)))

abbrev pub decreases-read_items-loop-value : goal.decreases-read_items-loop-value
decreases-read_items-loop-value l = length l.s - l.i
