-- Tabs, "[", the text collapsed, and "]" with the line end. Assumes nothing.
use Rattle.printing.proofs.NoteLaws.{note_put}
use Rattle.printing.proofs.notes.put_note.Goals as goal

pub returns : goal.returns
returns c = note_put c.args.text.now c.args.depth c.put_tabs.ensures c.put_byte.ensures c.put_collapsed.ensures c.put.ensures
