-- Each arm is a law of the test.
use mathlib.Core.Path.{◌∙◌}
use native.Mathlib.Omega.{arith}
use Rattle.text.proofs.Either.{either_first, either_second}
use Rattle.leaves.proofs.WordEnds.{ends_bracket, ends_slash, ends_other}
use Rattle.leaves.proofs.words.ends_word.Goals as goal

pub returns-in-62 : goal.returns-in-62
returns-in-62 c = ends_bracket c.args.around _ _ c.requires c.in-62.is

pub returns-in-47 : goal.returns-in-47
returns-in-47 c = ends_slash c.args.around _ _ c.requires _ c.in-47.is c.starts_with.ensures

pub returns-then-is_white : goal.returns-then-is_white
returns-then-is_white c = either_first _ c.is_white.ensures c.if-is_white.true ∙ ends_other c.args.around _ _ c.requires (omega arith) (omega arith)

pub returns-else-is_white : goal.returns-else-is_white
returns-else-is_white c =
    either_second c.is_white.ensures c.if-is_white.false c.ends.ensures ∙ ends_other c.args.around _ _ c.requires (omega arith) (omega arith)
