-- A refused reading is passed through; else what the form leaves.
use Prim.Native.Nat.{ℕ, ◌*◌, ◌≤◌}
use mathlib.Core.Path.{sym}
use native.Mathlib.Omega.{arith}
use lib.ListN.{length}
use lib.Seq.{length-take-le}
use Rattle.paper.specs.Entries.{entry_cells}
use Rattle.text.proofs.Answers.{passes}
use Rattle.layout.proofs.WriteLaws.{cells_inside, sheet_passed, under_refused, under_written}
use Rattle.layout.proofs.write_under.Goals.{In_ok-read}
use Rattle.layout.proofs.write_under.Goals as goal

pub returns-in_err-read : goal.returns-in_err-read
returns-in_err-read c =
    under_refused c.args.modes.now.table.now c.args.sheet.now c.args.out.now _ c.from_residual.result _ _
    (sheet_passed c.args.modes.now.table.now c.args.sheet.now c.args.cells.now c.read_under.new.cells _ c.args.modes.now.indexed.valid c.in_err-read.ensures
    c.read_under.auto.cells)
    (passes c.from_residual.ensures.1)

-- the cells of the entries are part of those that are lent
inside : (c : In_ok-read) → c.in_ok-read.read.count * entry_cells ≤ length c.read_under.new.cells
inside c =
    cells_inside c.args.modes.now.table.now c.args.sheet.now c.args.cells.now c.read_under.new.cells c.args.out.now c.read_under.result c.in_ok-read.read
    c.args.modes.now.indexed.valid c.read_under.ensures c.read_under.auto.cells c.in_ok-read.was

pub overflow_mul-end : goal.overflow_mul-end
overflow_mul-end c = omega (arith, inside (goal.at.overflow_mul-end c).In_ok-read)

pub slice_bounds-write_form-end : goal.slice_bounds-write_form-end
slice_bounds-write_form-end c = inside (goal.at.slice_bounds-write_form-end c).In_ok-read

pub slice_bounds-write_form-end-2 : goal.slice_bounds-write_form-end-2
slice_bounds-write_form-end-2 c = sym (length-take-le _ _ (inside (goal.at.slice_bounds-write_form-end-2 c).In_ok-read))

pub returns : goal.returns
returns c =
    under_written c.args.modes.now.table.now c.args.sheet.now c.args.cells.now c.read_under.new.cells c.args.out.now c.read_under.result c.in_ok-read.read
    c.args.modes.now.indexed.valid c.read_under.ensures c.read_under.auto.cells c.in_ok-read.was _ _ c.write_form.ensures
