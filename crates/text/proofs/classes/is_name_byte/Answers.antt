use mathlib.Core.Path.{◌∙◌}
use Rattle.std.proofs.Math.Bool.{or_assoc, or_comm}
use Rattle.paper.specs.Bytes.{is_name_byte, is_letter, is_upper, is_lower, is_digit}
use Rattle.text.proofs.classes.is_name_byte.Goals as goal

pub returns : goal.returns
unfolding is_name_byte is_letter is_upper is_lower is_digit
returns c = c.is_ascii_alphanumeric.ensures.value ∙ or_assoc (is_digit c.args.b) (is_upper c.args.b) (is_lower c.args.b) ∙ or_comm (is_digit c.args.b) (is_letter c.args.b)
