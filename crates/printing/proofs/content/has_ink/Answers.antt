-- Where the blanks behind the cut end. Assumes nothing.
use mathlib.Core.Path.{◌∙◌}
use lib.ListN.{length}
use borrow.Author.Tests.{le-ltb}
use Rattle.printing.proofs.LineTexts.{some_ink, short_ink}
use Rattle.printing.proofs.content.has_ink.Goals as goal

pub returns-then-cut-line : goal.returns-then-cut-line
returns-then-cut-line c = some_ink c.args.line.now c.args.cut _ c.end.ensures c.if-cut-line.true

pub returns-else-cut-line : goal.returns-else-cut-line
returns-else-cut-line c =
    le-ltb c.args.cut (length c.args.line.now) c.if-cut-line.false ∙ short_ink c.args.line.now c.args.cut c.if-cut-line.false
