-- Two digits for each byte so far, and the bytes in the room go before what the rest spells.
-- The measure is how many digits are left.
use Rattle.std.proofs.Common.{length, ◌*◌, ◌-◌, ◌≤◌, ◌≡◌}
use Rattle.trials.proofs.Spelling.{Spelling}
use Rattle.trials.proofs.hex.read.Given as goal

abbrev pub invariant-loop-at : goal.invariant-loop-at
invariant-loop-at l =
    (l.at ≡ 2 * l.n) × (l.at ≤ length l.digits) × (length l.room ≡ length l.initial.room) × Spelling l.digits l.at l.room l.n

abbrev pub decreases-loop-at : goal.decreases-loop-at
decreases-loop-at l = length l.digits - l.at
