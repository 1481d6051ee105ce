-- The invariant: what is left of the pieces at `i`. The measure is what is left of the spelling. Assumes nothing.
use Prim.Native.Nat.{◌-◌}
use mathlib.Core.Path.{◌≡◌}
use mathlib.Core.Bool.{true}
use mathlib.Core.List.{List, []}
use lib.ListN.{length}
use Rattle.paper.specs.Bytes.{all}
use Rattle.paper.specs.Values.{Piece, pieces_onto, piece_rule}
use Rattle.quoting.proofs.Sequences.{Left}
use Rattle.quoting.proofs.Spelling.{piece_run}
use Rattle.quoting.proofs.quoted.put_pieces.Given as goal

abbrev pub invariant-loop-i : goal.invariant-loop-i
invariant-loop-i l = (ps : List Piece) → l.w ≡ pieces_onto ps [] → all (piece_rule l.quote) ps ≡ true
    → Left (piece_run l.quote) l.w l.initial.page ps l.i l.page

abbrev pub decreases-loop-i : goal.decreases-loop-i
decreases-loop-i l = length l.w - l.i
