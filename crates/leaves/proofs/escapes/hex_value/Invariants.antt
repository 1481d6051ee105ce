-- The invariant: the digits that are left, behind the number so far, spell what all do.
use Prim.Native.Nat.{◌^◌, ◌<◌}
use mathlib.Core.Path.{◌≡◌}
use lib.ListN.{drop}
use Rattle.paper.specs.Values.{hex_value}
use Rattle.leaves.proofs.escapes.hex_value.Given as goal

abbrev pub invariant-loop-digit : goal.invariant-loop-digit
invariant-loop-digit l = (l.value < 16 ^ l.digit-index) × (hex_value l.value (drop l.digit-index l.digits) ≡ hex_value 0 l.digits)
