-- The invariant: the run from `i` on, with the capitals directly before it, decides as the run from `at` on.
use Rattle.names.proofs.Rule.{Judged}
use Rattle.names.proofs.run_at.Given as goal

abbrev pub invariant-loop-i : goal.invariant-loop-i
invariant-loop-i l = Judged l.s l.at l.capitals l.few l.key l.i
