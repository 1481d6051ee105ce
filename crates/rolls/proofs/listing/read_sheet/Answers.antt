-- The sheet's answer is that of reading its bytes alone, and its three numbers go into the record.
use mathlib.Core.Path.{ap, ◌∙◌}
use mathlib.Core.List.{[], ◌∷◌}
use native.Mathlib.Omega.{arith}
use Rattle.paper.specs.declared.Told.{Told}
use Rattle.paper.specs.Roll.{Record}
use Rattle.rolls.specs.Records.{lay_records}
use Rattle.rolls.proofs.ReadLaws.{small_place, small_count, record_read}
use Rattle.rolls.proofs.listing.read_sheet.Goals as goal

pub overflow_cast-answer : goal.overflow_cast-answer
overflow_cast-answer c = omega (arith, ap (λ (t : Told). t.place) c.from-answer.ensures, small_place c.args.modes.now.table.now _ c.args.cells.now _ _ c.args.modes.now.indexed.valid c.read_under.ensures)

pub overflow_cast-answer-2 : goal.overflow_cast-answer-2
overflow_cast-answer-2 c = omega (arith, ap (λ (t : Told). t.count) c.from-answer.ensures, small_count c.args.modes.now.table.now _ c.args.cells.now _ _ c.args.modes.now.indexed.valid c.read_under.ensures)

pub returns : goal.returns
returns c =
    c.put.ensures
    ∙ ap (λ (e : Record). lay_records c.args.records.now c.args.n (e ∷ []))
    (record_read c.args.modes.now.table.now _ c.args.cells.now _ _ c.args.modes.now.indexed.valid c.read_under.ensures _ _ _ _ _
    (ap (λ (t : Told). t.number) c.from-answer.ensures) (ap (λ (t : Told). t.place) c.from-answer.ensures)
    (ap (λ (t : Told). t.count) c.from-answer.ensures))
