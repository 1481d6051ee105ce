use Rattle.paper.specs.Bytes.{is_letter, is_upper, is_lower}
use Rattle.text.proofs.classes.is_letter.Goals as goal

pub returns : goal.returns
unfolding is_letter is_upper is_lower
returns c = c.is_ascii_alphabetic.ensures.value
