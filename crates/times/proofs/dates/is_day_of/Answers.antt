-- Without "-", or by the month in front and the day behind. Assumes nothing.
use Prim.Native.Nat.{ℕ}
use mathlib.Core.Path.{refl, sym, ◌∙◌}
use Rattle.std.proofs.Common.{rules}
use Rattle.paper.specs.Times.{two_digits, days_of, is_day_of}
use Rattle.times.proofs.Both.{both_first, both_second, where_found}
use Rattle.times.proofs.Digits.{pair_there}
use Rattle.times.proofs.Splits.{parted_none}
use Rattle.times.proofs.Calendar.{day_there}
use Rattle.times.proofs.dates.is_day_of.Goals as goal

pub returns-in_default : goal.returns-in_default
unfolding is_day_of
returns-in_default c = parted_none _ _ _ _ c.in_default.ensures

pub returns-then-is_month : goal.returns-then-is_month
returns-then-is_month c =
    let judged = where_found _ _ _ _ (λ (m : ℕ). two_digits 1 (days_of c.args.year m) c.in-Some.day.now) c.pair.ensures c.is_some_and.ensures (λ m e. search rules) in
    let two = pair_there 1 12 _ (sym c.is_month.ensures ∙ c.if-is_month.true) in
    both_second c.is_month.ensures c.if-is_month.true (rw two at judged) ∙ day_there _ _ _ c.in-Some.ensures c.args.year

pub returns-else-is_month : goal.returns-else-is_month
returns-else-is_month c = both_first _ c.is_month.ensures c.if-is_month.false refl ∙ day_there _ _ _ c.in-Some.ensures c.args.year
