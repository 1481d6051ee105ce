-- It stays where it is empty or has ink right behind its tabs. Assumes nothing.
use native.Mathlib.Omega.{arith}
use Rattle.printing.proofs.Staying.{empty_line, ink_line}
use Rattle.printing.proofs.content.past_line.Goals as goal

pub returns-then-end-at : goal.returns-then-end-at
returns-then-end-at c = (
  omega arith,
  empty_line _ _ _ _ c.tab_end-mark.ensures c.text_end-end.ensures (omega arith) c.if-s-end-ne10.false c.if-end-at.true,
)

pub returns-then-s-mark-ne32 : goal.returns-then-s-mark-ne32
returns-then-s-mark-ne32 c = (
  omega arith,
  ink_line _ _ _ _ c.tab_end-mark.ensures c.text_end-end.ensures (omega arith) c.if-s-end-ne10.false c.if-mark-end.true c.if-s-mark-ne32.true,
)
