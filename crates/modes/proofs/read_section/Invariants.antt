-- The invariant: `i` names are read up to `place`, reading the rest from there gives what reading them all gives, and the index lists them too.
-- The measure is how many names are left.
use Prim.Native.Nat.{◌+◌, ◌-◌}
use lib.ListN.{drop}
use Rattle.modes.specs.Table.{names_of}
use Rattle.modes.proofs.Sections.{Reading}
use Rattle.modes.proofs.Sections.{Listed}
use Rattle.modes.proofs.read_section.Given as goal

abbrev pub invariant-loop-i : goal.invariant-loop-i
invariant-loop-i l = Reading l.table (names_of l.earlier (drop 1 l.table)) (l.at + 1) l.count l.i l.place × Listed l.table l.index l.at l.earlier l.i l.place

abbrev pub decreases-loop-i : goal.decreases-loop-i
decreases-loop-i l = l.count - l.i
