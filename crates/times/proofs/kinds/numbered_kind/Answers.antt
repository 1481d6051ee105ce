-- A law for each way out: by "T", by ":", and by the length. Assumes nothing.
use mathlib.Core.Path.{sym, ◌∙◌}
use native.Mathlib.Omega.{arith}
use Rattle.times.proofs.Splits.{has_listed}
use Rattle.times.proofs.Told.{where_fits, undated, dated, clock_told, of_ten, of_seven, of_others}
use Rattle.times.proofs.kinds.numbered_kind.Goals as goal

pub returns-then-is_date : goal.returns-then-is_date
returns-then-is_date c = λ p l. dated _ p l _ _ c.in-Some.ensures c.moment_kind.ensures (sym c.is_date.ensures ∙ c.if-is_date.true)

pub returns-else-is_date : goal.returns-else-is_date
returns-else-is_date c = λ p l. undated _ p l _ _ c.in-Some.ensures (sym c.is_date.ensures ∙ c.if-is_date.false)

pub returns-then-contains : goal.returns-then-contains
returns-then-contains c =
    λ p l. where_fits _ _ _ _ c.then_some.ensures c.is_time.ensures
    ∙ clock_told _ p l c.in_default.ensures (sym (c.contains.ensures.value ∙ has_listed _ _) ∙ c.if-contains.true)

pub returns-in-10 : goal.returns-in-10
returns-in-10 c =
    λ p l. where_fits _ _ _ _ c.then_some-in-10.ensures c.is_date-in-10.ensures
    ∙ of_ten _ p l c.in_default.ensures (sym (c.contains.ensures.value ∙ has_listed _ _) ∙ c.if-contains.false) c.in-10.is

pub returns-in-7 : goal.returns-in-7
returns-in-7 c =
    λ p l. where_fits _ _ _ _ c.then_some-in-7.ensures c.is_year_month.ensures
    ∙ of_seven _ p l c.in_default.ensures (sym (c.contains.ensures.value ∙ has_listed _ _) ∙ c.if-contains.false) c.in-7.is

pub returns-in_default-len : goal.returns-in_default-len
returns-in_default-len c =
    λ p l. where_fits _ _ _ _ c.then_some-in_default-len.ensures c.is_day_of.ensures
    ∙ of_others _ p l c.in_default.ensures (sym (c.contains.ensures.value ∙ has_listed _ _) ∙ c.if-contains.false) (λ e. omega arith) (λ e. omega arith)
