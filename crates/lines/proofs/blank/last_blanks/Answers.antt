-- A law for each way out.
use native.Mathlib.Omega.{arith}
use mathlib.Core.Path.{ap}
use Rattle.std.specs.Prelude.{Err}
use Rattle.lines.proofs.Crossing.{says_refused, reaches}
use Rattle.lines.proofs.Blanks.{last_more, last_none}
use Rattle.lines.proofs.blank.last_blanks.Goals as goal

pub returns-then-end-s : goal.returns-then-end-s
returns-then-end-s c = says_refused _ _ _ _ _ _ _ (ap Err c.at.ensures) (omega arith) (last_more _ _ _ c.end-end.ensures c.if-end-s.true)

pub returns : goal.returns
returns c = reaches _ _ _ _ (omega arith) (last_none _ _ _ c.end-end.ensures c.if-end-s.false)
