-- The byte behind the blanks decides.
use Rattle.std.proofs.Common.{rules}
use Rattle.paper.specs.Bytes.{is_line_end}
use Rattle.lines.proofs.Ends.{by_byte}
use Rattle.lines.proofs.Blanks.{no_line, line_by}
use Rattle.lines.proofs.blank.is_blank_line.Goals as goal

pub returns : goal.returns
returns c =
    by_byte _ _ _ c.get.result is_line_end _ _ _ c.get.ensures.lookup.3 c.is_some_and.ensures (λ x q. search rules)
    (no_line _ _ _ c.end-end.ensures) (line_by _ _ _ c.end-end.ensures)
