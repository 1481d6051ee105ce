-- A law for each way out; where the run of hex digits ends, "}" is due.
use Prim.Native.Nat.{ℕ, ◌+◌, ◌-◌}
use mathlib.Core.Path.{sym, ap, ◌∙◌}
use mathlib.Core.Logic.{inl, inr}
use Rattle.std.specs.Prelude.{Option}
use Rattle.std.specs.Option.{ok_or}
use native.Mathlib.Omega.{arith}
use borrow.Author.Tests.{eqb-false}
use Rattle.leaves.proofs.Showing.{no_value, cut_off}
use Rattle.leaves.proofs.Escaping.{by_rule, few_digits, braced_many, braced_ends, braced_other, braced_none, braced_judged, braced_spells}
use Rattle.leaves.proofs.escapes.braced_end.Goals as goal

pub returns-then-end-start-gt-DIGITS : goal.returns-then-end-start-gt-DIGITS
returns-then-end-start-gt-DIGITS c =
    λ quote. no_value _ _ _ _ _ _ c.at.ensures (omega arith)
    (braced_many quote _ c.args.at _ _ c.end-end.ensures c.if-end-start-gt-DIGITS.true)

pub returns-then-end-s : goal.returns-then-end-s
returns-then-end-s c = λ quote. cut_off _ _ _ _ _ c.at-then-end-s.ensures (braced_ends quote _ c.args.at _ _ c.end-end.ensures c.if-end-start-gt-DIGITS.false c.if-end-s.true)

pub returns-then-s-end-ne125 : goal.returns-then-s-end-ne125
returns-then-s-end-ne125 c =
    λ quote. no_value _ _ _ _ _ _ c.at-then-s-end-ne125.ensures (omega arith)
    (elim c.then-s-end-ne125.either [
      | inl other ↦ braced_other quote _ c.args.at _ _ c.end-end.ensures c.if-end-start-gt-DIGITS.false (omega arith) other
      | inr none ↦ braced_none quote _ c.args.at _ _ c.end-end.ensures c.if-end-start-gt-DIGITS.false (omega arith) none.0 none.1
    ])

pub spells_scalar-requires : goal.spells_scalar-requires
spells_scalar-requires c = few_digits _ (c.end-end.result - (c.args.at + 3)) (omega arith) (omega arith)

pub returns : goal.returns
returns c =
    λ quote. by_rule quote _ _ _ _ _ (omega arith) (omega arith)
    (braced_judged quote _ c.args.at _ _ c.end-end.ensures c.if-end-start-gt-DIGITS.false (omega arith) c.if-s-end-ne125.false) _
    (c.spells_scalar.ensures
    ∙ sym (braced_spells quote _ c.args.at _ _ c.end-end.ensures c.if-end-start-gt-DIGITS.false (omega arith) c.if-s-end-ne125.false (omega (arith, eqb-false))))
    _ _ c.at-2.ensures (c.ok_or.ensures.value ∙ ap (λ (o : Option ℕ). ok_or o c.at-2.result) c.then_some.ensures)
