-- A count in front that is the whole word.
use mathlib.Core.Path.{◌∙◌}
use Rattle.leaves.proofs.Integers.{counts, measured}
use Rattle.leaves.proofs.numbers.is_count.Goals as goal

pub returns : goal.returns
returns c = c.eq.ensures ∙ rw c.count_length.ensures.0 (measured counts _ c.count_length.ensures.1)
