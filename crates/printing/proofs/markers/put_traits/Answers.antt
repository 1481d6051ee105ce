use mathlib.Core.Path.{sym, ◌∙◌}
use borrow.Author.Tests.{eqb-true, eqb-false}
use native.Mathlib.Omega.{arith}
use Rattle.entries.specs.Laid.{entry_of}
use Rattle.printing.proofs.Marking.{left_first, left_on, left_over}
use Rattle.printing.proofs.Slashes.{slash_end}
use Rattle.printing.proofs.markers.put_traits.Goals as goal

pub loop-slash-init : goal.loop-slash-init
loop-slash-init c = (
  omega arith,
  λ parent place ts o e r f. left_first c.args.laid.s.now c.args.laid.cells.now c.args.n parent place ts c.args.below c.args.depth _ o e r f,
)

pub loop-slash-preserved : goal.loop-slash-preserved
loop-slash-preserved c = (
  let y = c.put_trait-next.ensures.0.same in omega arith,
  λ parent place ts o e r f. left_on c.args.laid.s.now c.args.laid.cells.now c.args.n ts c.args.below c.args.depth _
      c.loop-slash.next _ _ (c.loop-slash.invariant.1 parent place ts o e r f)
      (eqb-true _ 2 (sym c.is_of.ensures.same ∙ c.loop-slash-test.true)) (entry_of c.at.result) c.at.ensures _
      c.spelling.ensures _ (c.ends_with-slash.ensures.value ∙ slash_end _) c.put_lead.ensures _ c.put_trait-next.ensures.1,
)

pub returns : goal.returns
returns c = (
  c.loop-slash.invariant.0,
  λ parent place ts o e r f. left_over c.args.laid.s.now c.args.laid.cells.now c.args.n ts c.args.below c.args.depth _
      c.loop-slash.next _ _ (c.loop-slash.invariant.1 parent place ts o e r f)
      (eqb-false _ 2 (sym c.is_of.ensures.same ∙ c.loop-slash-test.false)),
)
