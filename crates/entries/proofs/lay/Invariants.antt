-- The invariant: the row's first numbers are stored, from its place on.
use Prim.Native.Nat.{◌*◌}
use mathlib.Core.Path.{◌≡◌}
use lib.ListN.{length, take}
use lib.Seq.{sets}
use Rattle.entries.proofs.lay.Given as goal

abbrev pub invariant-loop-i : goal.invariant-loop-i
invariant-loop-i g l = (length l.row ≡ g.row.N) × (l.cells ≡ sets l.initial.cells (l.n * g.row.N) (take l.i l.row))
