use Rattle.paper.specs.Bytes.{is_lower}
use Rattle.text.proofs.classes.is_lower.Goals as goal

pub returns : goal.returns
unfolding is_lower
returns c = c.is_ascii_lowercase.ensures.value
