-- Each range is a law of what may stand. Assumes nothing.
use native.Mathlib.Omega.{arith}
use Rattle.text.proofs.Checks.{plain_tab_lf, plain_printing}
use Rattle.text.proofs.utf8.is_plain.Goals as goal

pub returns-in-9 : goal.returns-in-9
returns-in-9 c = λ e. plain_tab_lf _ (omega arith) (omega arith)

pub returns-in-9-2 : goal.returns-in-9-2
returns-in-9-2 c = λ e. plain_printing _ (omega arith) (omega arith)
