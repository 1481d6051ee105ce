-- The records that an acceptance counts lie in the room that was lent.
use native.Mathlib.Omega.{arith}
use Rattle.rolls.proofs.DemandThree.{records_fit}
use Rattle.roll.proofs.print_answer.Goals as goal

pub records-requires : goal.records-requires
records-requires g c = omega (arith, records_fit _ _ _ _ _ _ _ _ (rw c.in-Ok.is at c.read.ensures), c.read.auto.records)
