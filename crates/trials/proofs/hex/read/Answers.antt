-- The digits that stop the reading, and a pair more.
use mathlib.Core.Path.{sym, ◌∙◌}
use native.Mathlib.Omega.{arith}
use lib.ListN.{length-set}
use Rattle.trials.proofs.Spelling.{stops, ends, goes_on, half, first_wrong, second_wrong}
use Rattle.trials.proofs.hex.read.Goals.{then-not-is_hex-via-then-not-is_hex, then-not-is_hex-via-else-not-is_hex+then-not-is_hex-2}
use Rattle.trials.proofs.hex.read.Goals as goal

pub returns-then-digits-at-lt2 : goal.returns-then-digits-at-lt2
returns-then-digits-at-lt2 c =
    stops _ _ _ _ c.loop-at.invariant.3 (half _ _ c.loop-at-test.true c.if-digits-at-lt2.true)

pub returns-then-not-is_hex : goal.returns-then-not-is_hex
returns-then-not-is_hex c =
    stops _ _ _ _ c.loop-at.invariant.3 (elim c.then-not-is_hex.branch [
      | then-not-is_hex-via-then-not-is_hex w ↦
          first_wrong c.args.digits.now c.loop-at.at (omega arith) (sym c.is_hex.ensures ∙ w.if-not-is_hex.true)
      | then-not-is_hex-via-else-not-is_hex+then-not-is_hex-2 w ↦
          second_wrong c.args.digits.now c.loop-at.at (omega arith) (sym w.is_hex-else-not-is_hex.ensures ∙ w.if-not-is_hex-2.true)
    ])

pub loop-at-preserved : goal.loop-at-preserved
loop-at-preserved c =
    let a = sym c.is_hex.ensures ∙ c.if-not-is_hex.false in
    let b = sym c.is_hex-else-not-is_hex.ensures ∙ c.if-not-is_hex-2.false in (
      omega arith,
      omega arith,
      simp length-set (omega arith),
      goes_on _ _ _ _ c.loop-at.invariant.3 _ _ (omega arith) (omega arith) a b c.hex_digit.ensures.0 c.hex_digit-in-loop-at.ensures.0,
    )

pub returns : goal.returns
returns c = (omega arith, ends _ _ _ _ c.loop-at.invariant.3 c.loop-at-test.false)
