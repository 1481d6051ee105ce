-- A law for each way out: cut, of no kind, or of one. Assumes nothing.
use native.Mathlib.Omega.{arith}
use Rattle.leaves.proofs.Showing.{no_value, cut_off}
use Rattle.leaves.proofs.LeafReads.{time_ends, time_bad, time_good}
use Rattle.leaves.proofs.read_time.Goals as goal

pub returns-then-end-s : goal.returns-then-end-s
returns-then-end-s c = cut_off _ _ _ _ _ c.at.ensures (time_ends _ _ _ c.find-end.ensures.0 c.if-end-s.true)

pub returns-then-is_none : goal.returns-then-is_none
returns-then-is_none c =
    no_value _ _ _ _ _ _ c.at-then-is_none.ensures (omega arith)
    (time_bad _ _ _ c.find-end.ensures.0 (omega arith) _ c.kind_of.ensures (rw c.if-is_none.true at c.is_none.ensures))

pub returns : goal.returns
returns c = time_good _ _ _ c.find-end.ensures.0 (omega arith) _ c.kind_of.ensures (rw c.if-is_none.false at c.is_none.ensures)
