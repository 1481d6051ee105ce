-- A law for each way out; the run of hex digits is long enough or not.
use Prim.Native.Nat.{ℕ, ◌+◌, ◌-◌}
use mathlib.Core.Path.{sym, ap, ◌∙◌}
use Rattle.std.specs.Prelude.{Option}
use Rattle.std.specs.Option.{ok_or}
use native.Mathlib.Omega.{arith}
use Rattle.leaves.proofs.Showing.{no_value, cut_off}
use Rattle.leaves.proofs.Escaping.{by_rule, few_digits, four_ends, four_other, four_judged, four_rule}
use Rattle.leaves.proofs.escapes.four_end.Goals as goal

pub returns-then-stop-s : goal.returns-then-stop-s
returns-then-stop-s c = λ quote. cut_off _ _ _ _ _ c.at.ensures (four_ends quote _ c.args.at _ _ c.end-stop.ensures c.if-stop-end.true c.if-stop-s.true)

pub returns-then-stop-end : goal.returns-then-stop-end
returns-then-stop-end c =
    λ quote. no_value _ _ _ _ _ _ c.at-then-stop-end.ensures (omega arith)
    (four_other quote _ c.args.at _ _ c.end-stop.ensures c.if-stop-end.true (omega arith))

pub spells_scalar-requires : goal.spells_scalar-requires
spells_scalar-requires c = few_digits _ (c.args.at + 2 + 4 - (c.args.at + 2)) (omega arith) (omega arith)

pub returns : goal.returns
returns c =
    λ quote. by_rule quote _ _ _ _ _ (omega arith) (omega arith) (four_judged quote _ c.args.at _ _ c.end-stop.ensures c.if-stop-end.false) _
    (c.spells_scalar.ensures ∙ sym (four_rule quote _ c.args.at _ _ c.end-stop.ensures c.if-stop-end.false)) _ _ c.at-2.ensures (c.ok_or.ensures.value ∙ ap (λ (o : Option ℕ). ok_or o c.at-2.result) c.then_some.ensures)
