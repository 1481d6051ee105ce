-- By the definition's cases. Assumes nothing.
use native.Mathlib.Omega.{arith}
use borrow.Author.Tests.{ne_eqb}
use Rattle.paper.specs.Values.{letter_means}
use Rattle.quoting.proofs.quoted.letter.Goals as goal

pub returns-in-110 : goal.returns-in-110
unfolding letter_means
returns-in-110 c = rw c.in-110.is

pub returns-in-114 : goal.returns-in-114
unfolding letter_means
returns-in-114 c = rw c.in-114.is

pub returns-in-116 : goal.returns-in-116
unfolding letter_means
returns-in-116 c = rw c.in-116.is

pub returns-in_default : goal.returns-in_default
unfolding letter_means
returns-in_default c = rw (
  ne_eqb c.args.b 110 (omega arith),
  ne_eqb c.args.b 114 (omega arith),
  ne_eqb c.args.b 116 (omega arith),
)
