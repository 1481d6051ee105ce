-- The invariant: what is left to put is what the pieces that are left stand for, collapsed.
-- The measure is what is left of the spelling. Assumes nothing.
use Prim.Native.Nat.{◌-◌}
use mathlib.Core.List.{List, []}
use mathlib.Core.Bool.{true, false}
use mathlib.Core.Path.{◌≡◌}
use lib.ListN.{length}
use Rattle.paper.specs.Values.{Piece, pieces_onto, backtick_rule}
use Rattle.quoting.proofs.Ticks.{Ticks}
use Rattle.quoting.proofs.backticks.put_backtick.Given as goal

abbrev pub invariant-loop-i : goal.invariant-loop-i
invariant-loop-i l =
    (ps : List Piece) → l.w ≡ pieces_onto ps [] → backtick_rule false ps ≡ true → Ticks l.w l.initial.apart ps l.i l.spacing l.apart

abbrev pub decreases-loop-i : goal.decreases-loop-i
decreases-loop-i l = length l.w - l.i
