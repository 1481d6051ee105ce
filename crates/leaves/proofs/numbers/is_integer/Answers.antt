-- An integer in front that is the whole word.
use mathlib.Core.Path.{◌∙◌}
use Rattle.leaves.proofs.Integers.{integers, measured}
use Rattle.leaves.proofs.numbers.is_integer.Goals as goal

pub returns : goal.returns
returns c = c.eq.ensures ∙ rw c.integer_length.ensures.0 (measured integers _ c.integer_length.ensures.1)
