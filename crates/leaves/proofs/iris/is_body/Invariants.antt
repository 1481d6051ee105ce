-- The invariant: the body from the cursor on is as the whole is; the measure is what is left behind it.
use Prim.Native.Nat.{◌-◌, ◌≤◌}
use mathlib.Core.Path.{◌≡◌}
use lib.ListN.{length}
use Rattle.leaves.proofs.IriParts.{body_at}
use Rattle.leaves.proofs.iris.is_body.Given as goal

abbrev pub invariant-loop-v : goal.invariant-loop-v
invariant-loop-v l = (l.cursor.at ≤ length l.body) × (body_at l.body l.cursor.at ≡ body_at l.body 0)

abbrev pub decreases-loop-v : goal.decreases-loop-v
decreases-loop-v l = length l.body - l.cursor.at
