-- A byte of the set and what is behind it. Assumes nothing.
use mathlib.Core.Path.{sym, ◌∙◌}
use Rattle.times.proofs.Splits.{parted_at}
use Rattle.times.proofs.parted.split_once.Goals as goal

pub returns : goal.returns
returns c = parted_at _ _ _ _ _ c.split_before.ensures.front (sym c.split_before.ensures.back ∙ c.in_ok-rest.ensures.cases.0)
