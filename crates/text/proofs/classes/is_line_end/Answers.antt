-- The class is either of the two bytes that are tested.
use mathlib.Core.Path.{refl}
use borrow.Author.Tests.{eq-eqb, ne_eqb}
use Rattle.paper.specs.Bytes.{is_line_end}
use Rattle.text.proofs.Either.{either_first, either_second}
use Rattle.text.proofs.classes.is_line_end.Goals as goal

pub returns-then-b-eq10 : goal.returns-then-b-eq10
unfolding is_line_end
returns-then-b-eq10 c = either_first _ refl (eq-eqb _ _ c.if-b-eq10.true)

pub returns-else-b-eq10 : goal.returns-else-b-eq10
unfolding is_line_end
returns-else-b-eq10 c = either_second refl (ne_eqb _ _ c.if-b-eq10.false) refl
