-- The invariant: all places up to `i` are taken. The measure is how many are left. Assumes nothing.
use Prim.Native.Nat.{◌-◌, ◌≤◌}
use mathlib.Core.Bool.{true}
use Rattle.text.specs.Runs.{AllFrom}
use Rattle.text.proofs.runs.skip_blocks.Given as goal

abbrev pub invariant-loop-i : goal.invariant-loop-i
invariant-loop-i g l = AllFrom (λ k. goal.F-post g l.takes k true) l.at l.i × (l.i ≤ l.end)

abbrev pub decreases-loop-i : goal.decreases-loop-i
decreases-loop-i g l = l.end - l.i
