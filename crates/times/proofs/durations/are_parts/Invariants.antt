-- The invariant: the parts that are left answer as the whole does. The measure is what is left. Assumes nothing.
use Prim.Native.Nat.{ℕ}
use mathlib.Core.Bool.{Bool}
use mathlib.Core.List.{List}
use lib.ListN.{length}
use Rattle.times.specs.Parts.{Judges}
use Rattle.times.proofs.Spans.{Ahead}
use Rattle.times.proofs.durations.are_parts.Given as goal

abbrev pub invariant-loop-size : goal.invariant-loop-size
invariant-loop-size g l = (size : List ℕ → Bool) → Judges g.F.Fn l.is_size size → Ahead size l.letters l.w l.left

abbrev pub decreases-loop-size : goal.decreases-loop-size
decreases-loop-size g l = length l.left
