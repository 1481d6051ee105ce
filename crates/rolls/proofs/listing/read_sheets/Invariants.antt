-- The invariant: so many sheets are read, and what is left to write is what was at first.
use mathlib.Core.Path.{◌≡◌}
use lib.ListN.{length}
use Rattle.rolls.proofs.ReadLaws.{ReadTo}
use Rattle.rolls.proofs.listing.read_sheets.Given as goal

abbrev pub invariant-loop-n : goal.invariant-loop-n
invariant-loop-n l = ReadTo l.modes.table.now l.roll (length l.initial.cells) l.initial.records l.records l.count l.n × (length l.cells ≡ length l.initial.cells)
