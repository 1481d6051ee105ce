-- The class is either of the two that are tested.
use Rattle.paper.specs.Bytes.{is_white}
use Rattle.text.proofs.Either.{either_first, either_second}
use Rattle.text.proofs.classes.is_white.Goals as goal

pub returns-then-is_blank : goal.returns-then-is_blank
unfolding is_white
returns-then-is_blank c = either_first _ c.is_blank.ensures c.if-is_blank.true

pub returns-else-is_blank : goal.returns-else-is_blank
unfolding is_white
returns-else-is_blank c = either_second c.is_blank.ensures c.if-is_blank.false c.is_line_end.ensures
