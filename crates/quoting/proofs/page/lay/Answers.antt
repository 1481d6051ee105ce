-- One byte more of the part is stored. Assumes nothing.
use mathlib.Core.Path.{sym, ◌∙◌}
use native.Mathlib.Omega.{arith}
use lib.ListN.{get_or, length-set}
use Rattle.std.proofs.Common.{rules}
use Rattle.quoting.proofs.Putting.{stores_more, stores_end}
use Rattle.quoting.proofs.page.lay.Goals as goal

pub loop-i-preserved : goal.loop-i-preserved
loop-i-preserved g c = (
  simp length-set c.loop-i.invariant.0,
  λ f m.
      let is = m (get_or c.args.part.now c.loop-i.i 0) _ (search (rules, c.type_inv.part)) c.of.ensures in
      stores_more f c.loop-i.out c.args.part.now c.args.at c.loop-i.i _ (omega arith) is ∙ c.loop-i.invariant.1 f m,
)

pub returns : goal.returns
returns g c = λ f m. sym (stores_end f c.loop-i.out c.args.part.now c.args.at c.loop-i.i (omega arith)) ∙ c.loop-i.invariant.1 f m
