-- A law for each way out of the loop, and for a turn of it. Assumes nothing.
use mathlib.Core.Path.{sym, ap, ◌∙◌}
use mathlib.Core.Bool.{not}
use lib.ListN.{get_or}
use Rattle.std.proofs.Common.{rules}
use Rattle.times.proofs.Digits.{all_on, all_off, all_out}
use Rattle.times.proofs.fields.are_some.Goals as goal

pub returns-then-not-class : goal.returns-then-not-class
returns-then-not-class g c =
    λ p j. all_off p _ _ (c.loop-b.invariant p j) c.loop-b-test.true (sym (j (get_or c.args.w.now c.loop-b.b-index 0) _ (search (rules, c.type_inv.w)) c.class.ensures) ∙ c.if-not-class.true)

pub loop-b-preserved : goal.loop-b-preserved
loop-b-preserved g c =
    λ p j. all_on p _ _ (c.loop-b.invariant p j) c.loop-b-test.true (sym (j (get_or c.args.w.now c.loop-b.b-index 0) _ (search (rules, c.type_inv.w)) c.class.ensures) ∙ c.if-not-class.false)

pub returns : goal.returns
returns g c = λ p j. ap not c.is_empty.ensures ∙ all_out p _ _ (c.loop-b.invariant p j) c.loop-b-test.false
