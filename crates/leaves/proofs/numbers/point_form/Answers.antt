-- A law for each way out, by the byte behind the digits.
use mathlib.Core.Path.{◌∙◌}
use mathlib.Core.Logic.{⊎_elim}
use native.Mathlib.Omega.{arith}
use Rattle.leaves.proofs.Forms.{number_if}
use Rattle.leaves.proofs.Integers.{one_of_two}
use Rattle.leaves.proofs.NumberForms.{point_none, point_decimal, point_exponent, point_other}
use Rattle.leaves.proofs.numbers.point_form.Goals as goal

pub returns-then-size-eq0 : goal.returns-then-size-eq0
returns-then-size-eq0 c = point_none _ (omega arith)

pub returns-in-empty : goal.returns-in-empty
returns-in-empty c = point_decimal _ c.end-size.result (omega arith) c.if-size-eq0.false c.in-empty.len_below

pub returns-in-101 : goal.returns-in-101
returns-in-101 c =
    number_if _ _ _ _ c.then_some.ensures c.is_integer.ensures
    ∙ point_exponent c.args.w.now c.end-size.result (omega arith) c.if-size-eq0.false c.in-101.len_at_least (one_of_two _ _ _ (λ n. omega arith))

pub returns-in_default : goal.returns-in_default
returns-in_default c =
    point_other _ c.end-size.result (omega arith) c.if-size-eq0.false c.in_default.len_at_least (λ e. ⊎_elim (λ x. omega arith) (λ x. omega arith) e)
