-- The invariant: what reads the string from `i` on reads it from behind its quote on; the measure is what is left of the input.
use Prim.Native.Nat.{◌+◌, ◌≤◌, ◌-◌}
use lib.ListN.{length, drop}
use Rattle.std.specs.Prelude.{Result}
use Rattle.paper.specs.declared.Refused.{Refused}
use Rattle.paper.specs.Values.{leaf_form}
use Rattle.leaves.specs.declared.judged.Judged.{Judged}
use Rattle.leaves.specs.Shown.{Judges, string_of}
use Rattle.leaves.proofs.quoted.string_end.Given as goal

abbrev pub invariant-loop-i : goal.invariant-loop-i
invariant-loop-i l =
    (l.at + 1 ≤ l.i) × (l.i ≤ length l.s)
    × ((r : Result Judged Refused) → Judges leaf_form l.s l.i (string_of (drop l.i l.s)) r → Judges leaf_form l.s (l.at + 1) (string_of (drop (l.at + 1) l.s)) r)

abbrev pub decreases-loop-i : goal.decreases-loop-i
decreases-loop-i l = length l.s - l.i
