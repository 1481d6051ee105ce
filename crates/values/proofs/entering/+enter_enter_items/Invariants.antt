-- A law for each way out. The loop goes on as what is entered from the next item on is entered from the first; one bracket deeper, fewer may be opened.
use Prim.Native.Nat.{ℕ, ◌+◌, ◌-◌, ◌*◌, ◌≤◌}
use mathlib.Core.Path.{◌≡◌}
use mathlib.Core.List.{List}
use lib.ListN.{length, drop}
use Rattle.paper.specs.Values.{bracket}
use Rattle.paper.specs.ReadingValues.{item_and}
use Rattle.std.specs.Prelude.{Result}
use Rattle.paper.specs.declared.Refused.{Refused}
use Rattle.values.specs.declared.entering.Entered.{Entered}
use Rattle.values.specs.Entering.{left_of, EntersFrom}
use Rattle.values.proofs.entering.+enter_enter_items.Given as goal

abbrev pub decreases-enter : goal.decreases-enter
decreases-enter l = 2 * l.nesting.left

abbrev pub decreases-enter_items : goal.decreases-enter_items
decreases-enter_items l = 2 * l.nesting.left + 1

abbrev pub invariant-enter_items-loop-kind : goal.invariant-enter_items-loop-kind
invariant-enter_items-loop-kind l = (l.at ≤ l.i) × (l.i ≤ length l.s) × (l.made ≤ left_of l.slot) × (l.own ≤ l.made) × (length l.cells ≡ length l.initial.cells)
    × ((r : Result Entered Refused) (after : List ℕ) → EntersFrom l.kind l.s l.i l.cells l.slot l.made l.own (item_and l.kind l.nesting.left (bracket l.kind) (drop l.i l.s)) r after
    → EntersFrom l.kind l.s l.at l.initial.cells l.slot 0 0 (item_and l.kind l.nesting.left (bracket l.kind) (drop l.at l.s)) r after)

abbrev pub decreases-enter_items-loop-kind : goal.decreases-enter_items-loop-kind
decreases-enter_items-loop-kind l = length l.s - l.i
