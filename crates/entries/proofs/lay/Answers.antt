-- One number more of the row is stored.
use Prim.Native.Nat.{◌*◌}
use native.Mathlib.Omega.{arith}
use Rattle.entries.proofs.Rows.{row_more}
use Rattle.entries.proofs.lay.Goals as goal

pub loop-i-preserved : goal.loop-i-preserved
loop-i-preserved g c = (c.loop-i.invariant.0, rw c.loop-i.invariant.1 (row_more c.args.cells.now c.args.row (c.args.n * g.row.N) c.loop-i.i (omega arith)))
