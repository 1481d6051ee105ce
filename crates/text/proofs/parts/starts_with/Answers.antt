use mathlib.Core.Path.{◌∙◌}
use Rattle.text.proofs.Compared.{starts_from}
use Rattle.text.proofs.parts.starts_with.Goals as goal

pub returns : goal.returns
returns c = c.starts_with.ensures.value ∙ starts_from _ _ _ _ c.min.ensures
