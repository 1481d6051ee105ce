-- The invariant: what the bytes before `i` have of the value, six bits more with each. Assumes nothing.
use Prim.Native.Nat.{◌+◌, ◌-◌, ◌≤◌}
use Rattle.text.proofs.Steps.{Gathered}
use Rattle.text.proofs.utf8.sequence.Given as goal

abbrev pub invariant-loop-i : goal.invariant-loop-i
invariant-loop-i g l = record {
  gathered : Gathered l.s l.at (l.at + l.i) (g.row.N - l.i) l.v;
  two : l.i ≤ 2 → l.v ≤ 0x7FF;
  three : l.i ≤ 3 → l.v ≤ 0x1FFFF;
  four : l.v ≤ 0x7FFFFF;
}
