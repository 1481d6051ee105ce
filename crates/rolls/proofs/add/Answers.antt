-- A refused table is passed through; else what is left under it, and zeros in all cells.
use mathlib.Core.Path.{◌≡◌, ◌∙◌}
use lib.ListN.{length}
use Rattle.paper.specs.Answer.{told}
use Rattle.modes.proofs.Chains.{fresh}
use Rattle.modes.proofs.Answered.{refusal_of}
use Rattle.layout.proofs.WriteLaws.{table_passed, zeros_beside}
use Rattle.rolls.specs.Promises.{AddsUnder}
use Rattle.rolls.proofs.AddLaws.{under_refused, adding_cells}
use Rattle.rolls.proofs.add.Goals.{in-Ok, in_default}
use Rattle.rolls.proofs.add.Goals as goal

pub read_into-requires : goal.read_into-requires
read_into-requires c = fresh

pub returns : goal.returns
returns c =
    let under : AddsUnder c.args.table.now c.args.sheet.now c.args.roll.now c.args.n (length c.args.cells.now) (told c.match-read_into.answer)
    c.match-read_into.roll =
    elim c.match-read_into.branch [
      | in-Ok w ↦ rw (w.answer-is, w.roll-is) w.add_under-answer.ensures
      | in_default w ↦
          let e = refusal_of c.read_into.result w.in_default.not-Ok in
          rw w.roll-is
          (under_refused c.args.table.now c.args.sheet.now c.args.roll.now c.args.n _ _ _ _
          (table_passed c.args.table.now c.args.sheet.now c.args.cells.now e.0 (rw e.1 at c.read_into.ensures.answer)) (w.answer-is ∙ e.1))
    ] in
    zeros_beside _ c.args.cells.now c.match-read_into.cells _ _ _ (adding_cells c.args.table.now c.args.sheet.now c.args.roll.now c.args.n _) under.0 under.1
    c.match-read_into.auto.cells c.zero_from.ensures
