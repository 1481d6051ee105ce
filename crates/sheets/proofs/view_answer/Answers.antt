-- By the part: its length, or 17.
use Rattle.sheets.proofs.Views.{answer_part, answer_none}
use Rattle.sheets.proofs.view_answer.Goals as goal

pub returns-in-Some : goal.returns-in-Some
returns-in-Some c = answer_part _ _ _ c.in-Some.ensures

pub returns-in-None : goal.returns-in-None
returns-in-None c = rw c.at.ensures (answer_none _ _ _ c.in-None.ensures)
