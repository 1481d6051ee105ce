-- The invariant: whole lines up to `i` are put as they stand. The measure is what is left of the slice. Assumes nothing.
use Prim.Native.Nat.{◌-◌}
use lib.ListN.{length}
use Rattle.printing.specs.Texts.{LinesStay}
use Rattle.printing.proofs.content.past_staying.Given as goal

abbrev pub invariant-loop-next : goal.invariant-loop-next
invariant-loop-next l = LinesStay l.lines l.cut l.tabs l.at l.i

abbrev pub decreases-loop-next : goal.decreases-loop-next
decreases-loop-next l = length l.lines - l.i
