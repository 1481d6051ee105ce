-- The invariant: the bytes from this one on, due at `place`, answer as all of them do at `at`.
use Rattle.lines.proofs.ReadAt.{DueFrom}
use Rattle.lines.proofs.part.bytes_due.Given as goal

abbrev pub invariant-loop-b : goal.invariant-loop-b
invariant-loop-b l = DueFrom l.fixed l.s l.at l.b-index l.place
