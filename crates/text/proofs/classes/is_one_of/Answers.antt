use mathlib.Core.Path.{◌∙◌}
use Rattle.text.proofs.Compared.{among_each}
use Rattle.text.proofs.classes.is_one_of.Goals as goal

pub returns : goal.returns
returns c = c.contains.ensures.value ∙ among_each _ _
