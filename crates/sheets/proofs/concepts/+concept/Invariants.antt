-- A law for each way out. The measure is the bytes that remain of the input; a call that takes none of them goes to a function of lower rank.
use Prim.Native.Nat.{◌+◌, ◌-◌, ◌*◌}
use mathlib.Core.Path.{◌≡◌}
use lib.ListN.{length}
use Rattle.sheets.specs.Traits.{NamesBefore}
use Rattle.sheets.proofs.PieceLaws.{Pieces}
use Rattle.sheets.proofs.concepts.+concept.Given as goal

abbrev pub decreases-read_annotated : goal.decreases-read_annotated
decreases-read_annotated l = 6 * (length l.s.now - l.at) + 1

abbrev pub decreases-read_block : goal.decreases-read_block
decreases-read_block l = 6 * (length l.s.now - l.at) + 4

abbrev pub decreases-read_children : goal.decreases-read_children
decreases-read_children l = 6 * (length l.s.now - l.at) + 3

abbrev pub decreases-read_concept : goal.decreases-read_concept
decreases-read_concept l = 6 * (length l.s.now - l.at)

abbrev pub decreases-read_inside : goal.decreases-read_inside
decreases-read_inside l = 6 * (length l.s.now - l.at) + 5

abbrev pub decreases-read_piece : goal.decreases-read_piece
decreases-read_piece l = 6 * (length l.s.now - l.at) + 2

abbrev pub invariant-read_children-loop-nesting : goal.invariant-read_children-loop-nesting
invariant-read_children-loop-nesting l =
    Pieces l.modes.table.now l.s l.at l.nesting.left l.initial.cells l.slot l.cells l.i l.made l.own × (length l.names ≡ length l.initial.names) × NamesBefore l.s (l.i + 1) l.names

abbrev pub decreases-read_children-loop-nesting : goal.decreases-read_children-loop-nesting
decreases-read_children-loop-nesting l = length l.s - l.i
