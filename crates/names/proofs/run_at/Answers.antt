-- A law for each kind of byte, and for the end of the run: at another byte, or with the slice.
use mathlib.Core.Path.{sym, ◌∙◌}
use native.Mathlib.Omega.{arith}
use Rattle.names.proofs.Rule.{judged_capital, judged_third, judged_other, measured_here, measured_cut, lower_name, digit_name}
use Rattle.names.proofs.run_at.Goals as goal
use Rattle.names.proofs.run_at.Goals.{then-is_lower, else-is_lower+then-is_upper+then-capitals-eq-CAPITALS}
use Rattle.names.proofs.run_at.Goals.{else-is_lower+then-is_upper+else-capitals-eq-CAPITALS, else-is_lower+else-is_upper+then-is_digit}

pub returns-else-is_digit : goal.returns-else-is_digit
returns-else-is_digit c =
    let lower = sym c.is_lower.ensures ∙ c.if-is_lower.false in
    let upper = sym c.is_upper.ensures ∙ c.if-is_upper.false in
    let no_byte = digit_name _ lower upper ∙ sym c.is_digit.ensures ∙ c.if-is_digit.false in
    measured_here c.loop-i.invariant c.loop-i-test.true no_byte _ c.judged.ensures

pub loop-i-preserved : goal.loop-i-preserved
loop-i-preserved c =
    let so_far = c.loop-i.invariant in
    let here = c.loop-i-test.true in
    let lower = sym c.is_lower.ensures in
    elim c.if-is_lower.branch [
      | then-is_lower w ↦ let byte = lower_name _ (lower ∙ w.if-is_lower.true) in rw (w.capitals-is, w.few-is) (judged_other so_far here byte.0 byte.1)
      | else-is_lower+then-is_upper+then-capitals-eq-CAPITALS w ↦
          rw (w.capitals-is, w.few-is) (judged_third so_far here (sym w.is_upper.ensures ∙ w.if-is_upper.true) (omega (arith, w.if-capitals-eq-CAPITALS.true)))
      | else-is_lower+then-is_upper+else-capitals-eq-CAPITALS w ↦
          rw (w.capitals-is, w.few-is)
          (judged_capital so_far here (sym w.is_upper.ensures ∙ w.if-is_upper.true) (omega (arith, w.if-capitals-eq-CAPITALS.false, so_far.row)))
      | else-is_lower+else-is_upper+then-is_digit w ↦
          let upper = sym w.is_upper.ensures ∙ w.if-is_upper.false in
          rw (w.capitals-is, w.few-is)
          (judged_other so_far here upper (digit_name _ (lower ∙ w.if-is_lower.false) upper ∙ sym w.is_digit.ensures ∙ w.if-is_digit.true))
    ]

pub returns : goal.returns
returns c = measured_cut c.loop-i.invariant c.loop-i-test.false _ c.judged-2.ensures
