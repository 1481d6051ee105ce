-- Two digits, each from "0" to "9", or not. Assumes nothing.
use native.Mathlib.Omega.{arith}
use Rattle.times.proofs.Digits.{pair_is, pair_none}
use Rattle.times.proofs.fields.pair.Goals as goal

pub returns-in-48-to-57 : goal.returns-in-48-to-57
returns-in-48-to-57 c =
    pair_is c.args.w.now (omega arith) (omega arith) (omega arith) (omega arith) (omega arith)

pub returns-in_default-2 : goal.returns-in_default-2
returns-in_default-2 c = pair_none _ (λ s a b d e. omega arith)

pub returns-in_default-3 : goal.returns-in_default-3
returns-in_default-3 c = pair_none _ (λ s a b d e. omega arith)

pub returns-in_default-4 : goal.returns-in_default-4
returns-in_default-4 c = pair_none _ (λ s a b d e. omega arith)

pub returns-in_default-5 : goal.returns-in_default-5
returns-in_default-5 c = pair_none _ (λ s a b d e. omega arith)
