-- A leaf by its spelling. Of a bracket the invariant says which items are left. Assumes nothing.
use Prim.Native.Nat.{◌-◌}
use mathlib.Core.Path.{sym, ◌∙◌, subst}
use borrow.Author.Tests.{ltb-false}
use native.Mathlib.Omega.{arith}
use Rattle.entries.specs.Laid.{entry_of}
use Rattle.entries.proofs.Standing.{stand_inside}
use Rattle.printing.specs.Standing.{Holds}
use Rattle.printing.proofs.ItemLaws.{items_first, items_on, items_over, bracket_put, leaf_value, deep_value}
use Rattle.printing.proofs.items.+put_value.Goals as goal

pub returns-then-not-has : goal.returns-then-not-has
returns-then-not-has t c =
    let none = ltb-false c.args.n _ (sym c.has.ensures ∙ c.if-not-has.true) in (
      record { same = omega arith; on = λ h. absurd (omega arith) },
      λ also v o r d. let z = stand_inside _ _ o.own _ o.stand in absurd (omega arith),
    )

pub returns-in_default : goal.returns-in_default
returns-in_default t c = (
  record { same = omega arith; on = λ h. omega arith },
  λ also v o r d. leaf_value c.args.laid.s.now c.args.laid.cells.now c.args.n (entry_of c.at-own.result) c.at-own.ensures _
      c.spelling.ensures (subst (Holds _) c.in_default.is c.bracket_of.ensures) c.put_leaf.ensures also v o r,
)

pub returns-then-brackets-eq0 : goal.returns-then-brackets-eq0
returns-then-brackets-eq0 t c = (
  record { same = omega arith; on = λ h. omega arith },
  λ also v o r d. deep_value c.args.laid.s.now c.args.laid.cells.now c.args.n (entry_of c.at-own.result) c.at-own.ensures
      c.in-Some.kind (subst (Holds _) c.in-Some.is c.bracket_of.ensures) also v o r (omega arith),
)

pub loop-i-init : goal.loop-i-init
loop-i-init t c = (
  omega arith,
  λ also v o r d. items_first c.args.laid.s.now c.args.laid.cells.now c.args.n (entry_of c.at-own.result) c.at-own.ensures
      c.in-Some.kind (subst (Holds _) c.in-Some.is c.bracket_of.ensures) c.args.brackets (omega arith) _ also v o r d,
)

pub loop-i-preserved : goal.loop-i-preserved
loop-i-preserved t c = (
  let z = c.put_value-next.ensures.0.same in omega arith,
  λ also v o r d. items_on c.args.laid.s.now c.args.laid.cells.now _ c.args.n (c.args.brackets - 1) v _ _ _ _ _
      c.loop-i-test.true c.put_comma.ensures c.put_item_label.ensures _ c.put_value-next.ensures.1
      (c.loop-i.invariant.1 also v o r d),
)

pub returns : goal.returns
returns t c = (
  let z = c.loop-i.invariant.0 in record { same = omega arith; on = λ h. omega arith },
  λ also v o r d. let i = items_over c.args.laid.s.now c.args.laid.cells.now _ c.args.n (c.args.brackets - 1) v _ _ _ _ _
      c.loop-i-test.false (rw c.closer.ensures at c.put_byte.ensures) (c.loop-i.invariant.1 also v o r d) in (
        i.0,
        bracket_put c.args.laid.s.now c.args.laid.cells.now c.args.n (entry_of c.at-own.result) c.at-own.ensures
            c.in-Some.kind (subst (Holds _) c.in-Some.is c.bracket_of.ensures) c.put_opener.ensures also v o r i.1,
      ),
)
