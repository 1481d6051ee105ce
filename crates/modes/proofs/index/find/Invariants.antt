-- The invariant: the number is one of the table's, and whatever names the index lists, the search has come to the number of the latest that has the key among those that are left.
-- The measure is that number.
use mathlib.Core.List.{List}
use Prim.Native.Nat.{ℕ, ◌≤◌}
use Rattle.modes.specs.Index.{name_count, Lists}
use Rattle.modes.proofs.Chains.{Chained}
use Rattle.modes.proofs.index.find.Given as goal

abbrev pub invariant-loop-number : goal.invariant-loop-number
invariant-loop-number l = (l.number ≤ name_count) × ((all : List (List ℕ)) → Lists l.table l.index all → Chained l.table l.index l.name all l.number)

abbrev pub decreases-loop-number : goal.decreases-loop-number
decreases-loop-number l = l.number
