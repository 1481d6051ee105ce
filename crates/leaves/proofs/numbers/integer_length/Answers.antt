-- The count behind the sign, where there is one.
use mathlib.Core.Path.{refl, sym, ◌∙◌}
use native.Mathlib.Omega.{arith}
use Rattle.leaves.proofs.Runs.{part_size}
use Rattle.leaves.proofs.Integers.{some_is, none_is, some_of, integer_zero, integer_size}
use Rattle.leaves.proofs.numbers.integer_length.Goals as goal

pub returns-in_err-count_length : goal.returns-in_err-count_length
returns-in_err-count_length c =
    let z = integer_zero _ _ _ c.sign_length-sign.ensures.0 refl
    (none_is _ (sym c.count_length.ensures.0 ∙ c.in_err-count_length.was)) in
    (rw (c.from_residual.ensures, ← z), omega arith)

pub returns : goal.returns
returns c =
    let size = some_is _ _ (sym c.count_length.ensures.0 ∙ c.in_ok-count_length.was) in
    let n = integer_size _ _ _ c.sign_length-sign.ensures.0 size.0 (λ z. omega arith) in
    (some_of _ _ (omega arith) n, omega (arith, part_size c.args.w.now c.sign_length-sign.result))
