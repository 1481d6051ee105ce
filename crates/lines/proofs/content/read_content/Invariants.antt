-- The invariant: the lines from `i` on end where those from the start on end. The measure is what is left of the slice.
use Prim.Native.Nat.{◌-◌}
use lib.ListN.{length}
use Rattle.lines.specs.Parts.{part}
use Rattle.lines.proofs.ContentRun.{LinesTo}
use Rattle.lines.proofs.content.read_content.Given as goal

abbrev pub invariant-loop-end : goal.invariant-loop-end
invariant-loop-end l = LinesTo l.s (part l.s l.from l.to) l.tabs l.start l.i

abbrev pub decreases-loop-end : goal.decreases-loop-end
decreases-loop-end l = length l.s - l.i
