-- Each arm is its row of the table: what an arm calls asks for the row, and answers the step. Assumes nothing.
use native.Mathlib.Omega.{arith}
use Rattle.paper.proofs.Scalars.{row_one, row_two, row_e0, row_e1, row_ed, row_ee, row_f0, row_f1, row_f4, row_under, row_past}
use Rattle.text.proofs.Steps.{step_one, step_none, awaits_two, awaits_three, awaits_four}
use Rattle.text.proofs.utf8.Cursor.step.Goals as goal

pub sequence-requires-clause-row : goal.sequence-requires-clause-row
sequence-requires-clause-row c = awaits_three _ _ c.if-s-at.false _ _ (row_e0 _ c.in-224.is)

pub sequence-requires-in-237-clause-row : goal.sequence-requires-in-237-clause-row
sequence-requires-in-237-clause-row c = awaits_three _ _ c.if-s-at.false _ _ (row_ed _ c.in-237.is)

pub sequence-requires-in-240-clause-row : goal.sequence-requires-in-240-clause-row
sequence-requires-in-240-clause-row c = awaits_four _ _ c.if-s-at.false _ _ (row_f0 _ c.in-240.is)

pub sequence-requires-in-244-clause-row : goal.sequence-requires-in-244-clause-row
sequence-requires-in-244-clause-row c = awaits_four _ _ c.if-s-at.false _ _ (row_f4 _ c.in-244.is)

pub sequence-requires-in-194-to-223-clause-row : goal.sequence-requires-in-194-to-223-clause-row
sequence-requires-in-194-to-223-clause-row c = awaits_two _ _ c.if-s-at.false (row_two _ (omega arith) (omega arith))

pub sequence-requires-in-225-to-236-clause-row : goal.sequence-requires-in-225-to-236-clause-row
sequence-requires-in-225-to-236-clause-row c = awaits_three _ _ c.if-s-at.false _ _ (row_e1 _ (omega arith) (omega arith))

pub sequence-requires-in-238-to-239-clause-row : goal.sequence-requires-in-238-to-239-clause-row
sequence-requires-in-238-to-239-clause-row c = awaits_three _ _ c.if-s-at.false _ _ (row_ee _ (omega arith) (omega arith))

pub sequence-requires-in-241-to-243-clause-row : goal.sequence-requires-in-241-to-243-clause-row
sequence-requires-in-241-to-243-clause-row c = awaits_four _ _ c.if-s-at.false _ _ (row_f1 _ (omega arith) (omega arith))

pub returns-in-0-to-127 : goal.returns-in-0-to-127
returns-in-0-to-127 c = step_one _ _ c.if-s-at.false (row_one _ (omega arith)) c.new.ensures

pub returns-in_default : goal.returns-in_default
returns-in_default c = step_none _ _ c.if-s-at.false (row_under _ (omega arith) (omega arith))

pub returns-in_default-2 : goal.returns-in_default-2
returns-in_default-2 c = step_none _ _ c.if-s-at.false (row_past _ (omega arith))
