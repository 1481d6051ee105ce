-- The invariant: the cell is on the way of the name, and no cell before it has the name. The measure is how many steps are left.
use Rattle.earlier.specs.Earlier.{Reached}
use Rattle.earlier.proofs.Ways.{ahead}
use Rattle.earlier.proofs.seek.Given as goal

abbrev pub invariant-loop-first : goal.invariant-loop-first
invariant-loop-first l = Reached l.s l.first l.index l.name l.cell

abbrev pub decreases-loop-first : goal.decreases-loop-first
decreases-loop-first l = ahead l.index l.name l.cell
