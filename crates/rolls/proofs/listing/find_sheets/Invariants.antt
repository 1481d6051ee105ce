-- The invariant: so many sheets are found, and the next one begins at `at`. The measure is what is left of the roll.
use Prim.Native.Nat.{◌-◌}
use lib.ListN.{length}
use Rattle.rolls.proofs.FindLaws.{Finding}
use Rattle.rolls.proofs.listing.find_sheets.Given as goal

abbrev pub invariant-loop-at : goal.invariant-loop-at
invariant-loop-at l = Finding l.roll l.first l.most l.initial.records l.records l.at l.count

abbrev pub decreases-loop-at : goal.decreases-loop-at
decreases-loop-at l = length l.roll - l.at
