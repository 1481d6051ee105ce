-- Without "-", or by the year in front and the day behind. Assumes nothing.
use Prim.Native.Nat.{ℕ}
use mathlib.Core.Path.{◌∙◌}
use Rattle.std.proofs.Common.{rules}
use Rattle.paper.specs.Times.{is_day_of, is_date}
use Rattle.times.proofs.Both.{where_found}
use Rattle.times.proofs.Splits.{parted_none}
use Rattle.times.proofs.Calendar.{date_there}
use Rattle.times.proofs.dates.is_date.Goals as goal

pub returns-in_default : goal.returns-in_default
unfolding is_date
returns-in_default c = parted_none _ _ _ _ c.in_default.ensures

pub returns : goal.returns
returns c =
    where_found _ _ _ _ (λ (y : ℕ). is_day_of y c.in-Some.rest.now) c.year.ensures c.is_some_and.ensures (λ y e. search rules)
    ∙ date_there _ _ _ c.in-Some.ensures
