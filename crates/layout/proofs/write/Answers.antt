-- A refused table is passed through; else what is left under it, and zeros in all cells.
use mathlib.Core.Path.{◌≡◌, ◌∙◌, ap}
use lib.ListN.{length}
use Rattle.std.proofs.Common.{rules}
use Rattle.paper.specs.Answer.{told}
use Rattle.modes.proofs.Chains.{fresh}
use Rattle.modes.proofs.Answered.{refusal_of}
use Rattle.layout.specs.Promises.{WritesUnder}
use Rattle.layout.proofs.WriteLaws.{table_passed, under_refused, writing_cells, zeros_beside}
use Rattle.layout.proofs.write.Goals.{in-Ok, in_default}
use Rattle.layout.proofs.write.Goals as goal

pub read_into-requires : goal.read_into-requires
read_into-requires c = fresh

pub returns : goal.returns
returns c =
    let under : WritesUnder c.args.table.now c.args.sheet.now (length c.args.cells.now) c.args.out.now (told c.match-read_into.answer) c.match-read_into.out =
    elim c.match-read_into.branch [
      | in-Ok w ↦
          let given : c.match-read_into.answer ≡ w.write_under-answer.result = search rules in
          rw (given, w.out-is) w.write_under-answer.ensures
      | in_default w ↦
          let e = refusal_of c.read_into.result w.in_default.not-Ok in
          rw w.out-is
          (under_refused c.args.table.now c.args.sheet.now c.args.out.now _ _ _ _
          (table_passed c.args.table.now c.args.sheet.now c.args.cells.now e.0 (rw e.1 at c.read_into.ensures.answer)) (w.answer-is ∙ e.1))
    ] in
    zeros_beside _ c.args.cells.now c.match-read_into.cells _ _ _ (writing_cells c.args.table.now c.args.sheet.now _ c.args.out.now) under.0 under.1
    c.match-read_into.auto.cells c.zero_from.ensures
