-- None past the end. Assumes nothing.
use native.Mathlib.Omega.{arith}
use Rattle.printing.proofs.LineTexts.{no_tabs}
use Rattle.printing.proofs.content.tabs_at.Goals as goal

pub returns-then-s-at : goal.returns-then-s-at
returns-then-s-at c = (no_tabs _ _ c.if-s-at.true, omega arith)
