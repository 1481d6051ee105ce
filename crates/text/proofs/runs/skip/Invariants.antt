-- The invariant: all places up to `i` are taken. Assumes nothing.
use mathlib.Core.Bool.{true}
use Rattle.text.specs.Runs.{AllFrom}
use Rattle.text.proofs.runs.skip.Given as goal

abbrev pub invariant-loop-i : goal.invariant-loop-i
invariant-loop-i g l = AllFrom (λ k. goal.F-post g l.takes k true) l.at l.i
