-- The invariant: to store what is left of the part is to store all of it. Assumes nothing.
use Prim.Native.Nat.{ℕ, ◌+◌}
use mathlib.Core.Path.{◌≡◌}
use mathlib.Core.List.{map}
use lib.ListN.{length, drop}
use lib.Seq.{sets}
use Rattle.quoting.specs.Page.{TurnsByte}
use Rattle.quoting.proofs.page.lay.Given as goal

abbrev pub invariant-loop-i : goal.invariant-loop-i
invariant-loop-i g l = (length l.out ≡ length l.initial.out) ×
    ((f : ℕ → ℕ) → TurnsByte g.F.Fn l.of f → sets l.out (l.at + l.i) (map f (drop l.i l.part)) ≡ sets l.initial.out l.at (map f l.part))
