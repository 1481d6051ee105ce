-- A refused reading is passed through; else what adding the sheet leaves.
use Prim.Native.Nat.{◌*◌, ◌≤◌}
use mathlib.Core.Path.{sym}
use native.Mathlib.Omega.{arith}
use lib.ListN.{length, take}
use lib.Seq.{length-take-le}
use Rattle.paper.specs.Entries.{entry_cells}
use Rattle.text.proofs.Answers.{passes}
use Rattle.layout.proofs.WriteLaws.{cells_inside, sheet_passed, Read, tree_read}
use Rattle.rolls.proofs.AddLaws.{under_refused, sheet_added}
use Rattle.rolls.proofs.add_under.Goals.{In_ok-read}
use Rattle.rolls.proofs.add_under.Goals as goal

pub returns-in_err-read : goal.returns-in_err-read
returns-in_err-read c =
    under_refused c.args.modes.now.table.now c.args.sheet.now c.args.roll.now c.args.n _ c.from_residual.result _ _
    (sheet_passed c.args.modes.now.table.now c.args.sheet.now c.args.cells.now c.read_under.new.cells _ c.args.modes.now.indexed.valid c.in_err-read.ensures
    c.read_under.auto.cells)
    (passes c.from_residual.ensures.1)

-- the cells of the entries are part of those that are lent
inside : (c : In_ok-read) → c.in_ok-read.read.count * entry_cells ≤ length c.read_under.new.cells
inside c =
    cells_inside c.args.modes.now.table.now c.args.sheet.now c.args.cells.now c.read_under.new.cells c.args.roll.now c.read_under.result c.in_ok-read.read
    c.args.modes.now.indexed.valid c.read_under.ensures c.read_under.auto.cells c.in_ok-read.was

-- the tree that the sheet reads to
read : (c : In_ok-read)
    → Read c.args.modes.now.table.now c.args.sheet.now (length c.args.cells.now) (take (c.in_ok-read.read.count * entry_cells) c.read_under.new.cells)
read c =
    tree_read c.args.modes.now.table.now c.args.sheet.now c.args.cells.now c.read_under.new.cells c.args.roll.now c.read_under.result c.in_ok-read.read
    c.args.modes.now.indexed.valid c.read_under.ensures c.read_under.auto.cells c.in_ok-read.was

pub overflow_mul-end : goal.overflow_mul-end
overflow_mul-end c = omega (arith, inside (goal.at.overflow_mul-end c).In_ok-read)

pub slice_bounds-add_sheet-end : goal.slice_bounds-add_sheet-end
slice_bounds-add_sheet-end c = inside (goal.at.slice_bounds-add_sheet-end c).In_ok-read

pub slice_bounds-add_sheet-end-2 : goal.slice_bounds-add_sheet-end-2
slice_bounds-add_sheet-end-2 c = sym (length-take-le _ _ (inside (goal.at.slice_bounds-add_sheet-end-2 c).In_ok-read))

pub add_sheet-requires : goal.add_sheet-requires
add_sheet-requires c = let r = read (goal.at.add_sheet-requires c).In_ok-read in record { it = r.it; of = r.of }

pub returns : goal.returns
returns c =
    sheet_added c.args.modes.now.table.now c.args.sheet.now c.args.roll.now _ _ c.args.n _ _ (read (goal.at.returns c).In_ok-read) c.add_sheet.ensures
