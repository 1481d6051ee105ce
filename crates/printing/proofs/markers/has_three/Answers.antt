-- By the kinds of the entries where a first, a second and a third trait would stand. Assumes nothing.
use mathlib.Core.Path.{sym, ◌∙◌}
use borrow.Author.Tests.{eqb-true, eqb-false}
use Rattle.printing.proofs.Three.{three_none, three_one, three_more}
use Rattle.printing.proofs.markers.has_three.Goals as goal

pub returns-then-not-is_of : goal.returns-then-not-is_of
returns-then-not-is_of c =
    three_none c.args.laid.cells.now c.args.n (eqb-false _ 2 (sym c.is_of.ensures.same ∙ c.if-not-is_of.true))

pub returns-then-not-is_of-2 : goal.returns-then-not-is_of-2
returns-then-not-is_of-2 c =
    three_one c.args.laid.cells.now c.args.n (eqb-true _ 2 (sym c.is_of.ensures.same ∙ c.if-not-is_of.false)) c.past_items-second.result
    c.past_items-second.ensures (eqb-false _ 2 (sym c.is_of-2.ensures.same ∙ c.if-not-is_of-2.true))

pub returns : goal.returns
returns c =
    λ parent at ts s e. c.is_of-3.ensures.same
    ∙ three_more c.args.laid.cells.now c.args.n (eqb-true _ 2 (sym c.is_of.ensures.same ∙ c.if-not-is_of.false)) c.past_items-second.result
    c.past_items-second.ensures (eqb-true _ 2 (sym c.is_of-2.ensures.same ∙ c.if-not-is_of-2.false)) c.past_items-third.result
    c.past_items-third.ensures parent at ts s e
