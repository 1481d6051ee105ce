-- An integer, or another form that is no "$" token either.
use native.Mathlib.Omega.{arith}
use Rattle.std.proofs.lemmas.Grind.{common_steps}
use Rattle.paper.specs.Values.{is_key_form}
use Rattle.values.proofs.labels.is_key_form.Goals as goal

pub returns-in-Integer : goal.returns-in-Integer
unfolding is_key_form
returns-in-Integer c = grind (arith, common_steps)

pub returns-in_default : goal.returns-in_default
unfolding is_key_form
returns-in_default c = grind (arith, common_steps)
