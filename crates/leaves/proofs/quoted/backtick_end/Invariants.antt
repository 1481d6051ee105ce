-- The invariant: all before `i` is read, but for a backslash directly before it.
use Prim.Native.Nat.{◌+◌}
use Rattle.leaves.proofs.Quotes.{Ticked}
use Rattle.leaves.proofs.quoted.backtick_end.Given as goal

abbrev pub invariant-loop-i : goal.invariant-loop-i
invariant-loop-i l = Ticked l.s (l.at + 1) l.i l.marked
