-- An empty line, or tabs and text. Assumes nothing.
use mathlib.Core.Path.{sym, ◌∙◌}
use native.Mathlib.Omega.{arith}
use Rattle.printing.proofs.LineTexts.{ink_inside, empty_put, text_put}
use Rattle.printing.proofs.content.put_line.Goals as goal
use Rattle.printing.proofs.content.put_line.Goals.{then-has_ink, else-has_ink}

pub slice_bounds-put-count : goal.slice_bounds-put-count
slice_bounds-put-count c = let h = ink_inside c.args.line.now c.args.cut (sym c.if-has_ink.true ∙ c.has_ink.ensures) in omega arith

pub slice_bounds-put-start : goal.slice_bounds-put-start
slice_bounds-put-start c = let h = ink_inside c.args.line.now c.args.cut (sym c.if-has_ink.true ∙ c.has_ink.ensures) in omega arith

pub returns : goal.returns
returns c = elim c.if-has_ink.branch [
  | then-has_ink w ↦ text_put c.args.line.now c.args.cut c.args.tabs (sym w.if-has_ink.true ∙ c.has_ink.ensures) w.put_tabs.ensures
      w.put.ensures (rw w.page-is at c.put_byte.ensures)
  | else-has_ink w ↦ empty_put c.args.line.now c.args.cut c.args.tabs (sym w.if-has_ink.false ∙ c.has_ink.ensures)
      (rw w.page-is at c.put_byte.ensures)
]
