-- Each byte in lower case. Assumes nothing.
use mathlib.Core.Path.{◌∙◌}
use Rattle.std.proofs.Common.{of_calls}
use Rattle.paper.specs.Canonical.{lower}
use Rattle.quoting.proofs.Collapsing.{lower_is}
use Rattle.quoting.proofs.spaced.put_lower.Goals as goal

pub returns : goal.returns
returns c = c.put_each.ensures lower (λ b r h p. search of_calls ∙ lower_is b)
