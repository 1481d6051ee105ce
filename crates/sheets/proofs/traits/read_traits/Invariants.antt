-- The invariant: what reading and entering the traits from `i` on gives, those from `at` on give, and the index lists the names of those so far;
-- the measure is what is left of the slice.
use Prim.Native.Nat.{◌-◌}
use lib.ListN.{length}
use Rattle.sheets.proofs.TraitRuns.{SoFar}
use Rattle.sheets.proofs.traits.read_traits.Given as goal

abbrev pub invariant-loop-b : goal.invariant-loop-b
invariant-loop-b l = SoFar l.s l.at l.initial.cells l.slot l.initial.names l.cells l.names l.i l.made l.own

abbrev pub decreases-loop-b : goal.decreases-loop-b
decreases-loop-b l = length l.s - l.i
