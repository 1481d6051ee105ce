-- The next boundary behind the sheet's first line.
use native.Mathlib.Omega.{arith}
use Rattle.rolls.proofs.Passing.{boundary_inside, sheet_to}
use Rattle.rolls.proofs.boundaries.sheet_end.Goals as goal

pub next_line-requires : goal.next_line-requires
next_line-requires c = omega (arith, boundary_inside c.args.roll.now c.args.at c.requires)

pub next_boundary-requires : goal.next_boundary-requires
next_boundary-requires c = c.next_line.ensures.passes.inside

pub returns : goal.returns
returns c = sheet_to c.requires c.next_line.ensures c.next_boundary.ensures
