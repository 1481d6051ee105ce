-- The name, the traits, and what stands before the end and at it, one behind the other. Assumes nothing.
use Prim.Native.Nat.{ℕ}
use mathlib.Core.Path.{refl, sym, ap, ◌∙◌}
use native.Mathlib.Omega.{arith}
use lib.Dec.{eqb}
use borrow.Author.Tests.{ltb-false, eq-eqb, ne_eqb}
use Rattle.text.proofs.Either.{either_first, either_second}
use Rattle.entries.specs.Laid.{entry_of}
use Rattle.entries.proofs.Standing.{stand_inside}
use Rattle.printing.proofs.Marking.{marker_put}
use Rattle.printing.proofs.markers.put_marker.Goals as goal
use Rattle.printing.proofs.markers.put_marker.Goals.{then-closed, else-closed}

pub returns-then-not-has : goal.returns-then-not-has
returns-then-not-has c =
    let none = ltb-false c.args.n _ (sym c.has.ensures ∙ c.if-not-has.true) in (
      record { same = omega arith; on = λ h. absurd (omega arith) },
      λ parent place tabs k o r f. let z = stand_inside _ _ _ _ o.stand in absurd (omega arith),
    )

pub returns : goal.returns
returns c = (
  let z = c.put_traits-traits.ensures.0 in record { same = omega arith; on = λ h. omega arith },
  λ parent place tabs k o r f. marker_put c.args.laid.s.now c.args.laid.cells.now c.args.n c.args.depth
      (entry_of c.at-own.result) c.at-own.ensures _ c.part.ensures
      c.has_three-below.result c.put_traits-traits.result.slash _ c.if-closed.put_break c.has_three-below.ensures
      (ap (λ (x : ℕ). eqb c.at-own.result.form x) c.number.ensures)
      (elim c.if-closed.branch [
        | then-closed w ↦ either_first _ w.put_break-is (w.put_break-is ∙ eq-eqb c.at-own.result.form c.number.result w.if-closed.true)
        | else-closed w ↦ either_second refl (ne_eqb c.at-own.result.form c.number.result w.if-closed.false) w.put_break-is
      ])
      c.put_traits-traits.result.next c.put.ensures c.put_traits-traits.ensures.1 c.put_break.ensures
      c.put_end.ensures parent place tabs k o r f,
)
