-- The roll is listed; what follows its records is zero, and so are the entry cells.
use Prim.Native.Nat.{ℕ, ◌*◌, ◌≤◌}
use mathlib.Core.Path.{◌≡◌, ap, ◌∙◌}
use native.Mathlib.Omega.{arith}
use lib.ListN.{length, replicate}
use Rattle.paper.specs.Answer.{told}
use Rattle.paper.specs.declared.Told.{Told}
use Rattle.paper.specs.Roll.{record_cells}
use Rattle.sheets.proofs.SheetLaws.{all_zero}
use Rattle.rolls.proofs.ListLaws.{records_fit, roll_done}
use Rattle.rolls.proofs.read.Goals.{After-from}
use Rattle.rolls.proofs.read.Goals as goal

count : (c : After-from) → c.from.result.count ≡ (told c.list-answer.result).count
count c = ap (λ (t : Told). t.count) c.from.ensures

fits : (c : After-from) → c.from.result.count * record_cells ≤ length c.list-answer.new.records
fits c =
    omega (
      arith,
      c.list-answer.auto.records,
      records_fit c.args.table.now c.args.roll.now _ c.args.records.now c.list-answer.result c.list-answer.ensures _ (count c),
    )

pub overflow_mul-from : goal.overflow_mul-from
overflow_mul-from c = omega (arith, fits (goal.at.overflow_mul-from c).After-from)

pub zero_from-requires : goal.zero_from-requires
zero_from-requires c = fits (goal.at.zero_from-requires c).After-from

pub returns : goal.returns
returns c =
    roll_done c.args.table.now c.args.roll.now _ c.args.records.now c.list-answer.result _ c.list-answer.ensures c.list-answer.auto.records
    c.from.result.count (count (goal.at.returns c).After-from) _ _ c.zero_from.ensures
    (c.zero_from-2.ensures ∙ all_zero c.list-answer.new.cells ∙ ap (λ (n : ℕ). replicate n 0) c.list-answer.auto.cells)
