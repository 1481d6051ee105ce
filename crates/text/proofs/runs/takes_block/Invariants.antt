-- The invariant: the first `i` places are taken, if `all` still says so. Assumes nothing.
use Prim.Native.Nat.{◌+◌}
use mathlib.Core.Path.{◌≡◌}
use mathlib.Core.Bool.{true}
use Rattle.text.specs.Runs.{AllFrom}
use Rattle.text.proofs.runs.takes_block.Given as goal

abbrev pub invariant-loop-i : goal.invariant-loop-i
invariant-loop-i g l = l.all ≡ true → AllFrom (λ k. goal.F-post g l.takes k true) l.at (l.at + l.i)
