-- Each arm is a law of what may stand. Assumes nothing.
use native.Mathlib.Omega.{arith}
use Rattle.text.proofs.Checks.{stand_cr, stand_delete, stand_tab_lf, stand_control, stand_other}
use Rattle.text.proofs.utf8.may_stand.Goals as goal

pub returns-in-13 : goal.returns-in-13
returns-in-13 c = stand_cr _ _ _ c.in-13.is c.starts_with.ensures

pub returns-in-9 : goal.returns-in-9
returns-in-9 c = stand_tab_lf _ _ (omega arith) (omega arith)

pub returns-in_default : goal.returns-in_default
returns-in_default c = stand_other _ _ (omega arith) (omega arith)

pub returns-in-0-to-31 : goal.returns-in-0-to-31
returns-in-0-to-31 c = stand_delete _ _ (omega arith)

pub returns-in-0-to-31-2 : goal.returns-in-0-to-31-2
returns-in-0-to-31-2 c = stand_control _ _ (omega arith) (omega arith) (omega arith) (omega arith)

pub returns-in-0-to-31-3 : goal.returns-in-0-to-31-3
returns-in-0-to-31-3 c = stand_control _ _ (omega arith) (omega arith) (omega arith) (omega arith)
