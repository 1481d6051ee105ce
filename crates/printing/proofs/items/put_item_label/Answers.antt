-- A map's key, or nothing. Assumes nothing.
use mathlib.Core.Path.{sym, ◌∙◌}
use Rattle.entries.specs.Laid.{entry_of}
use Rattle.printing.proofs.ItemLaws.{label_put, label_none}
use Rattle.printing.proofs.items.put_item_label.Goals as goal

pub returns-then-is_keyed : goal.returns-then-is_keyed
returns-then-is_keyed c =
    label_put c.args.laid.s.now c.args.laid.cells.now c.args.n c.args.kind (sym c.is_keyed.ensures ∙ c.if-is_keyed.true) (entry_of c.at.result)
    c.at.ensures _ c.name.ensures c.put_label.ensures

pub returns-else-is_keyed : goal.returns-else-is_keyed
returns-else-is_keyed c =
    label_none c.args.laid.s.now c.args.laid.cells.now c.args.n c.args.kind (sym c.is_keyed.ensures ∙ c.if-is_keyed.false) c.args.page.now
