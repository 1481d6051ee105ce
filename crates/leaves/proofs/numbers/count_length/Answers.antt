-- A law for each way out.
use native.Mathlib.Omega.{arith}
use Rattle.leaves.proofs.Integers.{some_of, count_zero, count_fits}
use Rattle.leaves.proofs.numbers.count_length.Goals as goal

pub returns-then-size-eq0 : goal.returns-then-size-eq0
returns-then-size-eq0 c =
    let z = count_fits c.args.w.now c.end-size.result (omega arith) (λ h e. omega arith) in
    (rw (← z, c.if-size-eq0.true), omega arith)

pub returns-then-w-eq48 : goal.returns-then-w-eq48
returns-then-w-eq48 c =
    let z = count_zero c.args.w.now c.end-size.result (omega arith) (omega arith) c.if-w-eq48.true in
    (rw (← z), omega arith)

pub returns : goal.returns
returns c =
    let n = count_fits c.args.w.now c.end-size.result (omega arith) (λ h e. grind arith) in
    (some_of _ _ (omega arith) n, omega arith)
