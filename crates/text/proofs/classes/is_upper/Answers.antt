use Rattle.paper.specs.Bytes.{is_upper}
use Rattle.text.proofs.classes.is_upper.Goals as goal

pub returns : goal.returns
unfolding is_upper
returns c = c.is_ascii_uppercase.ensures.value
