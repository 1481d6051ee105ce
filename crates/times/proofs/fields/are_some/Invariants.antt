-- The invariant: all bytes from here on are of the class where all are. Assumes nothing.
use Prim.Native.Nat.{ℕ}
use mathlib.Core.Path.{◌≡◌}
use mathlib.Core.Bool.{Bool}
use lib.ListN.{drop}
use Rattle.paper.specs.Bytes.{all}
use Rattle.times.specs.Parts.{JudgesByte}
use Rattle.times.proofs.fields.are_some.Given as goal

abbrev pub invariant-loop-b : goal.invariant-loop-b
invariant-loop-b g l = (p : ℕ → Bool) → JudgesByte g.F.Fn l.class p → all p (drop l.b-index l.w) ≡ all p l.w
