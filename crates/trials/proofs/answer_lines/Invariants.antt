-- The room keeps its length; the measure is how many lines may still come.
use Rattle.std.proofs.Common.{length, ◌≡◌}
use Rattle.trials.proofs.answer_lines.Given as goal

abbrev pub invariant-loop-left : goal.invariant-loop-left
invariant-loop-left g l = length l.room ≡ length l.initial.room

abbrev pub decreases-loop-left : goal.decreases-loop-left
decreases-loop-left g l = l.left
