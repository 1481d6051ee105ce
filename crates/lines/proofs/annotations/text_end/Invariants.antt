-- The invariant: the text from `i` on ends where the text from `at` on ends. The measure is what is left of the slice.
use Prim.Native.Nat.{◌≤◌, ◌-◌}
use lib.ListN.{length}
use Rattle.lines.proofs.Notes.{TextFrom}
use Rattle.lines.proofs.annotations.text_end.Given as goal

abbrev pub invariant-loop-i : goal.invariant-loop-i
invariant-loop-i l = record { inside : l.i ≤ length l.s; same : TextFrom l.s l.at l.i }

abbrev pub decreases-loop-i : goal.decreases-loop-i
decreases-loop-i l = length l.s - l.i
