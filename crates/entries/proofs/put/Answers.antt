-- The entry's cells are a row, laid at its number.
use Rattle.paper.specs.Entries.{all_cells}
use Rattle.entries.specs.Laid.{lay}
use Rattle.entries.proofs.put.Goals as goal

pub returns : goal.returns
unfolding lay all_cells
returns c = c.lay.ensures
