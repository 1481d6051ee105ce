-- The class is either of the two bytes that are tested.
use mathlib.Core.Path.{refl}
use borrow.Author.Tests.{eq-eqb, ne_eqb}
use Rattle.paper.specs.Bytes.{is_blank}
use Rattle.text.proofs.Either.{either_first, either_second}
use Rattle.text.proofs.classes.is_blank.Goals as goal

pub returns-then-b-eq32 : goal.returns-then-b-eq32
unfolding is_blank
returns-then-b-eq32 c = either_first _ refl (eq-eqb _ _ c.if-b-eq32.true)

pub returns-else-b-eq32 : goal.returns-else-b-eq32
unfolding is_blank
returns-else-b-eq32 c = either_second refl (ne_eqb _ _ c.if-b-eq32.false) refl
