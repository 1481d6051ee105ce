use Rattle.paper.specs.Bytes.{is_digit}
use Rattle.text.proofs.classes.is_digit.Goals as goal

pub returns : goal.returns
unfolding is_digit
returns c = c.is_ascii_digit.ensures.value
