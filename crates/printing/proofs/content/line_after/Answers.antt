-- CR before LF, or LF alone. Assumes nothing.
use mathlib.Core.Path.{sym, ◌∙◌}
use native.Mathlib.Omega.{arith}
use Rattle.printing.proofs.LineTexts.{after_crlf, after_lf}
use Rattle.printing.proofs.content.line_after.Goals as goal

pub returns-then-starts_with : goal.returns-then-starts_with
returns-then-starts_with c =
    record { on = omega arith; left = after_crlf c.args.s.now c.args.at (sym c.starts_with.ensures ∙ c.if-starts_with.true) }

pub returns-else-starts_with : goal.returns-else-starts_with
returns-else-starts_with c =
    record { on = omega arith; left = after_lf c.args.s.now c.args.at (sym c.starts_with.ensures ∙ c.if-starts_with.false) }
