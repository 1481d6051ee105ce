-- A law for each way out of the loop, and for a turn of it. Assumes nothing.
use mathlib.Core.Path.{sym, ◌∙◌}
use Rattle.times.proofs.Splits.{is_shorter}
use Rattle.times.proofs.Spans.{ahead_all, parts_none, parts_off, parts_over, parts_on}
use Rattle.times.proofs.durations.are_parts.Goals as goal

pub loop-size-init : goal.loop-size-init
loop-size-init g c = λ size j. ahead_all _ _ _

pub returns-then-not-is_size : goal.returns-then-not-is_size
returns-then-not-is_size g c =
    λ size j. parts_off _ _ _ _ (c.loop-size.invariant size j) _ _ c.in-Some.ensures (sym (j _ _ c.is_size.ensures) ∙ c.if-not-is_size.true)

pub returns-then-is_empty : goal.returns-then-is_empty
returns-then-is_empty g c =
    λ size j. parts_over _ _ _ _ (c.loop-size.invariant size j) _ _ c.in-Some.ensures
    (sym (j _ _ c.is_size.ensures) ∙ c.if-not-is_size.false) (sym c.is_empty.ensures ∙ c.if-is_empty.true)

pub loop-size-smaller : goal.loop-size-smaller
loop-size-smaller g c = is_shorter _ _ _ _ c.in-Some.ensures

pub loop-size-preserved : goal.loop-size-preserved
loop-size-preserved g c =
    λ size j. parts_on _ _ _ _ (c.loop-size.invariant size j) _ _ c.in-Some.ensures
    (sym (j _ _ c.is_size.ensures) ∙ c.if-not-is_size.false) (sym c.is_empty.ensures ∙ c.if-is_empty.false)

pub returns : goal.returns
returns g c = λ size j. parts_none _ _ _ _ (c.loop-size.invariant size j) c.in_default.ensures
