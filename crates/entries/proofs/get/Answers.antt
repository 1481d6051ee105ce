-- The entry lies not wholly in the cells, or its row is read.
use native.Mathlib.Omega.{arith}
use Rattle.entries.proofs.Getting.{at_none, at_read}
use Rattle.entries.proofs.get.Goals as goal

pub returns-in_default : goal.returns-in_default
returns-in_default c =
    let past = c.in_default.ensures.lookup in
    cc (at_none c.args.cells.now c.args.n (omega (arith, c.as_chunks.ensures.front_len)))

pub returns : goal.returns
returns c =
    let inside = c.in-Some.ensures.lookup in
    at_read _ _ _ (omega (arith, c.as_chunks.ensures.front_len)) (rw c.as_chunks.ensures.front at inside.1)
