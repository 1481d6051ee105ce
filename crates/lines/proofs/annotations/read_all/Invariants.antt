-- The invariant: what reading and entering the annotations from `i` on gives, those from `at` on give. The measure is what is left of the slice.
use Prim.Native.Nat.{◌-◌}
use lib.ListN.{length}
use Rattle.lines.proofs.NoteRuns.{Notes}
use Rattle.lines.proofs.annotations.read_all.Given as goal

abbrev pub invariant-loop-slot : goal.invariant-loop-slot
invariant-loop-slot l = Notes l.s l.at l.initial.cells l.slot l.cells l.i l.made

abbrev pub decreases-loop-slot : goal.decreases-loop-slot
decreases-loop-slot l = length l.s - l.i
