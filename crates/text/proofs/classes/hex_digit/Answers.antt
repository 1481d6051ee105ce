-- Each way is a law of its range. Assumes nothing.
use Rattle.text.proofs.HexDigits.{hex_numeral, hex_upper, hex_lower}
use Rattle.text.proofs.classes.hex_digit.Goals as goal

pub overflow_sub-result : goal.overflow_sub-result
overflow_sub-result c = (hex_numeral _ c.if-is_digit.ensures).0

pub overflow_sub-result-then-is_upper : goal.overflow_sub-result-then-is_upper
overflow_sub-result-then-is_upper c = (hex_upper _ c.requires c.if-is_digit.ensures c.if-is_upper.ensures).0

pub overflow_sub-result-else-is_upper : goal.overflow_sub-result-else-is_upper
overflow_sub-result-else-is_upper c = (hex_lower _ c.requires c.if-is_digit.ensures c.if-is_upper.ensures).0

pub returns-then-is_digit : goal.returns-then-is_digit
returns-then-is_digit c = (hex_numeral _ c.if-is_digit.ensures).1

pub returns-then-is_upper : goal.returns-then-is_upper
returns-then-is_upper c = (hex_upper _ c.requires c.if-is_digit.ensures c.if-is_upper.ensures).1

pub returns-else-is_upper : goal.returns-else-is_upper
returns-else-is_upper c = (hex_lower _ c.requires c.if-is_digit.ensures c.if-is_upper.ensures).1
