-- Too little is left, the byte is "<", or it is another.
use mathlib.Core.Path.{sym, ◌∙◌}
use native.Mathlib.Omega.{arith}
use borrow.Author.Tests.{eq-eqb, eqb-true, lt-leb}
use Rattle.paper.proofs.Tests.{true_false}
use Rattle.rolls.proofs.Passing.{boundary_short, boundary_upper, boundary_other}
use Rattle.rolls.proofs.boundaries.is_boundary.Goals.{then-roll-at-ge2, else-roll-at-ge2}
use Rattle.rolls.proofs.boundaries.is_boundary.Goals as goal

pub returns-then-roll-at-eq60 : goal.returns-then-roll-at-eq60
returns-then-roll-at-eq60 c =
    elim c.if-roll-at-ge2.branch [
      | then-roll-at-ge2 w ↦
          boundary_upper c.args.roll.now c.args.at (omega (arith, w.if-roll-at-ge2.true)) (eqb-true _ _ (sym w.value-is ∙ c.if-roll-at-eq60.true)) _
          c.is_upper.ensures
      | else-roll-at-ge2 w ↦ true_false (sym c.if-roll-at-eq60.true ∙ w.value-is ∙ lt-leb 2 _ w.if-roll-at-ge2.false)
    ]

pub returns-else-roll-at-eq60 : goal.returns-else-roll-at-eq60
returns-else-roll-at-eq60 c =
    elim c.if-roll-at-ge2.branch [
      | then-roll-at-ge2 w ↦
          w.value-is
          ∙ boundary_other c.args.roll.now c.args.at (omega (arith, w.if-roll-at-ge2.true))
          (λ k. true_false (sym (eq-eqb _ _ k) ∙ sym w.value-is ∙ c.if-roll-at-eq60.false))
      | else-roll-at-ge2 w ↦ c.if-roll-at-eq60.false ∙ boundary_short _ _ w.if-roll-at-ge2.false
    ]
