-- By what stands before "T" and behind it, or with no "T". Assumes nothing.
use mathlib.Core.Path.{◌≡◌, refl, ◌∙◌}
use mathlib.Core.Bool.{◌||◌}
use Rattle.std.proofs.Common.{rules}
use Rattle.paper.specs.Times.{is_empty, are_date_parts}
use Rattle.times.proofs.Both.{both_first}
use Rattle.times.proofs.Spans.{span_date, span_parted}
use Rattle.times.proofs.durations.is_span.Goals as goal

pub returns-then-are_date_parts : goal.returns-then-are_date_parts
returns-then-are_date_parts c =
    let says : c.if-is_empty.value ≡ is_empty c.in-Some.date.now || are_date_parts c.in-Some.date.now = search rules in
    rw (← span_parted _ _ _ c.in-Some.ensures, ← says, c.if-are_date_parts.true) (search rules)

pub returns-else-are_date_parts : goal.returns-else-are_date_parts
returns-else-are_date_parts c =
    let says : c.if-is_empty.value ≡ is_empty c.in-Some.date.now || are_date_parts c.in-Some.date.now = search rules in
    both_first _ says c.if-are_date_parts.false refl ∙ span_parted _ _ _ c.in-Some.ensures

pub returns-in-None : goal.returns-in-None
returns-in-None c = c.are_date_parts-in-None.ensures ∙ span_date _ c.in-None.ensures
