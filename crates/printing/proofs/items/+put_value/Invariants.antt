-- The recursion ends, since fewer brackets may stand in the items. The invariant: which items of the bracket are left. Assumes nothing.
use Prim.Native.Nat.{ℕ, ◌+◌, ◌-◌, ◌≤◌}
use mathlib.Core.List.{List}
use mathlib.Core.Bool.{true}
use mathlib.Core.Path.{◌≡◌}
use Rattle.paper.specs.Values.{Value, value_rule, bracket_depth}
use Rattle.printing.specs.Standing.{OfValue}
use Rattle.printing.proofs.ItemLaws.{Items}
use Rattle.printing.proofs.items.+put_value.Given as goal

abbrev pub decreases-put_value : goal.decreases-put_value
decreases-put_value l = l.brackets

abbrev pub invariant-loop-i : goal.invariant-loop-i
invariant-loop-i l = (l.n + 1 ≤ l.next) ×
    ((also : List ℕ) (v : Value) → OfValue l.laid.s.now l.laid.cells.now l.n v → value_rule also v ≡ true → bracket_depth v ≤ l.brackets
    → Items l.laid.s.now l.laid.cells.now l.kind l.n (l.brackets - 1) v l.i-end l.initial.page l.i l.next l.page)
