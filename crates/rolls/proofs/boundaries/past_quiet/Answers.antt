-- Behind the roll's end nothing is passed.
use Rattle.std.proofs.Common.{rules}
use native.Mathlib.Omega.{arith}
use Rattle.rolls.proofs.Passing.{passes_none, all_pass, no_begin_passes}
use Rattle.rolls.proofs.boundaries.past_quiet.Goals as goal

pub returns-then-at-roll : goal.returns-then-at-roll
returns-then-at-roll c = passes_none _ _ _ (omega arith)

pub returns : goal.returns
returns c =
    let e = c.skip_blocks.ensures in
    all_pass e.taken (omega arith) (λ i h l t. no_begin_passes _ i (omega arith) (search rules))
