-- The quote, or one of the letters.
use mathlib.Core.Path.{refl}
use borrow.Author.Tests.{eq-eqb, ne_eqb}
use Rattle.paper.specs.Values.{piece_rule}
use Rattle.text.proofs.Either.{either_first, either_second}
use Rattle.leaves.proofs.escapes.is_escaped.Goals as goal

pub returns-then-b-quote : goal.returns-then-b-quote
unfolding piece_rule
returns-then-b-quote c = either_first _ refl (eq-eqb _ _ c.if-b-quote.true)

pub returns-else-b-quote : goal.returns-else-b-quote
unfolding piece_rule
returns-else-b-quote c = either_second refl (ne_eqb _ _ c.if-b-quote.false) c.is_one_of.ensures
