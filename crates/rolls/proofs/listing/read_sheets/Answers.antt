use mathlib.Core.Path.{refl, ◌∙◌}
use native.Mathlib.Omega.{arith}
use Rattle.rolls.proofs.ReadLaws.{none_read, read_spans, read_turn, all_read}
use Rattle.rolls.proofs.listing.read_sheets.Goals as goal

pub loop-n-init : goal.loop-n-init
loop-n-init c = (none_read _ _ _ _ _ c.requires, refl)

pub read_sheet-requires : goal.read_sheet-requires
read_sheet-requires c = read_spans c.loop-n.invariant.0 c.loop-n-test.true

pub loop-n-preserved : goal.loop-n-preserved
loop-n-preserved c =
    let so_far = c.loop-n.invariant in (
      read_turn so_far.0 c.loop-n-test.true _ so_far.1 c.read_sheet.ensures,
      c.read_sheet.auto.cells ∙ so_far.1,
    )

pub returns : goal.returns
returns c = all_read c.loop-n.invariant.0 (omega arith)
