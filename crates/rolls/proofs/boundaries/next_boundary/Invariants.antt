-- The invariant: no sheet begins up to `i`, where a line starts. The measure is what is left of the roll.
use Prim.Native.Nat.{◌-◌}
use mathlib.Core.Bool.{true}
use lib.ListN.{length}
use Rattle.rolls.specs.Boundaries.{Passes}
use Rattle.rolls.proofs.boundaries.next_boundary.Given as goal

abbrev pub invariant-loop-i : goal.invariant-loop-i
invariant-loop-i l = Passes true true l.roll l.at l.i

abbrev pub decreases-loop-i : goal.decreases-loop-i
decreases-loop-i l = length l.roll - l.i
