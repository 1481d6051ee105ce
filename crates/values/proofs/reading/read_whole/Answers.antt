-- No bracket, or one; so many brackets may be opened as the limit says.
use Rattle.values.proofs.BracketLaws.{leaf_value, opening_none}
use Rattle.values.proofs.reading.read_whole.Goals as goal

pub returns-then-is_none : goal.returns-then-is_none
returns-then-is_none c = leaf_value _ _ 8 _ _ (opening_none _ (rw c.opens.ensures at c.if-is_none.ensures)) c.read_leaf.ensures
