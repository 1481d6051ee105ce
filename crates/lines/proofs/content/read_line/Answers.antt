-- A law for each way out, of any name whose closing line does not stand here.
use mathlib.Core.Path.{◌∙◌}
use Rattle.lines.proofs.ContentLines.{line_shallow, line_deep}
use Rattle.lines.proofs.content.read_line.Goals as goal

pub returns-then-mark-at : goal.returns-then-mark-at
returns-then-mark-at c =
    λ w unclosed.
    c.line_rest.ensures ∙ line_shallow _ w _ _ _ c.requires unclosed c.if-mark-at.true

pub returns : goal.returns
returns c =
    λ w unclosed.
    c.line_end.ensures
    ∙ line_deep _ w _ _ _ c.requires unclosed _ c.if-mark-at.false c.text_end.ensures
