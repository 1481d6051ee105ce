-- The byte behind the blanks decides.
use Rattle.std.proofs.Common.{rules}
use Rattle.paper.specs.Bytes.{is_line_end}
use Rattle.lines.proofs.Ends.{by_byte}
use Rattle.lines.proofs.Closing.{over_end, over_byte}
use Rattle.lines.proofs.content.is_over.Goals as goal

pub returns : goal.returns
returns c =
    by_byte _ _ _ c.get.result is_line_end _ _ _ c.get.ensures.lookup.3 c.is_none_or.ensures (λ x q. search rules)
    (over_end _ _ _ c.end-end.ensures) (over_byte _ _ _ c.end-end.ensures)
