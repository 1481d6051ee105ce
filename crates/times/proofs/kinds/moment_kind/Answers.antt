-- A law for each way out: no time, no zone, or a zone. Assumes nothing.
use mathlib.Core.Path.{sym, ◌∙◌}
use borrow.Author.Tests.{eqb-true, eqb-false}
use Rattle.times.proofs.Told.{where_fits, moment_off, moment_local, moment_zone}
use Rattle.times.proofs.kinds.moment_kind.Goals as goal

pub returns-then-not-is_time : goal.returns-then-not-is_time
returns-then-not-is_time c =
    λ d e. moment_off _ _ _ c.split_before.ensures.front c.split_before.ensures.back d e (sym c.is_time.ensures ∙ c.if-not-is_time.true)

pub returns-then-is_empty : goal.returns-then-is_empty
returns-then-is_empty c =
    λ d e. moment_local _ _ _ c.split_before.ensures.front c.split_before.ensures.back d e
    (eqb-true _ _ (sym c.is_empty.ensures ∙ c.if-is_empty.true)) (sym c.is_time.ensures ∙ c.if-not-is_time.false)

pub returns-else-is_empty : goal.returns-else-is_empty
returns-else-is_empty c =
    λ d e. where_fits _ _ _ _ c.then_some.ensures c.is_zone.ensures
    ∙ moment_zone _ _ _ c.split_before.ensures.front c.split_before.ensures.back d e
    (eqb-false _ _ (sym c.is_empty.ensures ∙ c.if-is_empty.false)) (sym c.is_time.ensures ∙ c.if-not-is_time.false)
