use Rattle.paper.specs.Bytes.{is_hex, is_digit}
use Rattle.text.proofs.classes.is_hex.Goals as goal

pub returns : goal.returns
unfolding is_hex is_digit
returns c = c.is_ascii_hexdigit.ensures.value
