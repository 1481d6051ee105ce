-- A law for each way out, by the byte behind the integer in front.
use mathlib.Core.Path.{sym, ap, ◌∙◌}
use mathlib.Core.Logic.{⊎_elim}
use native.Mathlib.Omega.{arith}
use Rattle.paper.specs.Forms.{number_or_none}
use Rattle.leaves.proofs.Forms.{number_if}
use Rattle.leaves.proofs.Integers.{one_of_two, some_is, none_is}
use Rattle.leaves.proofs.NumberForms.{number_none, number_integer, number_point, number_exponent, number_fraction, number_other}
use Rattle.leaves.proofs.numbers.number_form.Goals as goal

pub returns-in_err-size : goal.returns-in_err-size
returns-in_err-size c = ap number_or_none c.from_residual.ensures ∙ number_none _ (none_is _ (sym c.integer_length.ensures.0 ∙ c.in_err-size.was))

pub returns-in-empty : goal.returns-in-empty
returns-in-empty c =
    let size = some_is _ _ (sym c.integer_length.ensures.0 ∙ c.in_ok-size.was) in
    number_integer _ _ size.0 (omega arith) c.in-empty.len_below

pub returns-in-46 : goal.returns-in-46
returns-in-46 c =
    let size = some_is _ _ (sym c.integer_length.ensures.0 ∙ c.in_ok-size.was) in
    c.point_form.ensures ∙ number_point _ _ size.0 (omega arith) c.in-46.len_at_least (omega arith)

pub returns-in-101 : goal.returns-in-101
returns-in-101 c =
    let size = some_is _ _ (sym c.integer_length.ensures.0 ∙ c.in_ok-size.was) in
    number_if _ _ _ _ c.then_some.ensures c.is_integer.ensures
    ∙ number_exponent _ _ size.0 (omega arith) c.in-101.len_at_least (one_of_two _ _ _ (λ n. omega arith))

pub returns-in-47 : goal.returns-in-47
returns-in-47 c =
    let size = some_is _ _ (sym c.integer_length.ensures.0 ∙ c.in_ok-size.was) in
    number_if _ _ _ _ c.then_some-in-47.ensures c.is_count.ensures
    ∙ number_fraction _ _ size.0 (omega arith) c.in-47.len_at_least (omega arith)

pub returns-in_default : goal.returns-in_default
returns-in_default c =
    let size = some_is _ _ (sym c.integer_length.ensures.0 ∙ c.in_ok-size.was) in
    number_other _ _ size.0 (omega arith) c.in_default.len_at_least (λ e. omega arith) (λ e. ⊎_elim (λ x. omega arith) (λ x. omega arith) e) (λ e. omega arith)
