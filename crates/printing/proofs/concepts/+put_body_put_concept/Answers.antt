-- A body by its elements, one behind the other, and a Concept by its form. Assumes nothing.
use mathlib.Core.Path.{sym, ◌∙◌}
use native.Mathlib.Numerals.{add-one}
use native.Mathlib.Omega.{arith}
use Rattle.entries.specs.Laid.{entry_of}
use Rattle.text.proofs.Deepening.{one_less, no_less}
use Rattle.printing.proofs.BodyLaws.{element_there, element_on, body_over}
use Rattle.printing.proofs.ConceptLaws.{some_depth, closed_put, content_put, children_put}
use Rattle.printing.proofs.concepts.+put_body_put_concept.Goals as goal

pub put_body-returns-then-left-noted : goal.put_body-returns-then-left-noted
put_body-returns-then-left-noted t c = λ parent place body of keeps ends few. absurd
    (element_there _ _ _ _ _ _ body ends (c.loop-left.invariant parent place body of keeps ends few)
    c.loop-left-test.true _ c.put_between.ensures c.put_notes-own.ensures.1 c.if-left-noted.true)

pub put_body-loop-left-preserved : goal.put_body-loop-left-preserved
put_body-loop-left-preserved t c = λ parent place body of keeps ends few. element_on _ _ _ _ _ _ body ends
    (c.loop-left.invariant parent place body of keeps ends few) c.loop-left-test.true _ c.put_between.ensures
    c.put_notes-own.ensures.1 _ c.put_concept-next.ensures

pub put_body-returns : goal.put_body-returns
put_body-returns t c = λ parent place body of keeps ends few. body_over _ _ _ _ _ _ body ends
    (c.loop-left.invariant parent place body of keeps ends few) c.loop-left-test.false

pub put_concept-returns-in_default : goal.put_concept-returns-in_default
put_concept-returns-in_default t c = λ parent place tabs k of keeps.
    let z = no_less c.step.result c.args.nesting.left c.step.ensures c.in_default.is in
    absurd (omega (arith, some_depth k, keeps.deep))

pub put_concept-returns-then-own-number : goal.put_concept-returns-then-own-number
put_concept-returns-then-own-number t c =
    children_put _ _ c.args.n c.args.depth c.args.nesting.left c.put_tabs.ensures c.put_marker-next.ensures.1
    (entry_of c.at-own.result) c.at-own.ensures _ (add-one c.args.depth) _ c.name.ensures c.put_closing.ensures _
    c.count_elements-elements.ensures _ (one_less _ _ c.step.ensures _ c.in-Some.is) c.put_body-end.ensures (c.if-own-number.true ∙ c.number.ensures)

pub put_concept-returns-then-own-number-2 : goal.put_concept-returns-then-own-number-2
put_concept-returns-then-own-number-2 t c =
    content_put _ _ c.args.n c.args.depth c.args.nesting.left c.put_tabs.ensures c.put_marker-next.ensures.1
    (entry_of c.at-own.result) c.at-own.ensures _ (add-one c.args.depth) _ c.name-then-own-number-2.ensures
    c.put_closing-then-own-number-2.ensures c.put_content-end.ensures (c.if-own-number-2.true ∙ c.number-2.ensures)

pub put_concept-returns : goal.put_concept-returns
put_concept-returns t c =
    closed_put _ _ c.args.n c.args.depth c.args.nesting.left c.put_tabs.ensures c.put_marker-next.ensures.1
    (entry_of c.at-own.result) c.at-own.ensures (λ h. c.if-own-number.false (h ∙ sym c.number.ensures))
    (λ h. c.if-own-number-2.false (h ∙ sym c.number-2.ensures))
