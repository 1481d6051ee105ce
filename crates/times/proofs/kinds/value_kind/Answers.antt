-- A law for each way out: too short, without its braces, or by what is between them. Assumes nothing.
use native.Mathlib.Omega.{arith}
use Rattle.times.proofs.Braces.{too_short, unopened, unclosed, told_inside}
use Rattle.times.proofs.kinds.value_kind.Goals as goal

pub returns-in-123 : goal.returns-in-123
returns-in-123 c = told_inside _ (omega arith) (omega arith) (omega arith) _ c.kind_of.ensures

pub returns-in_default : goal.returns-in_default
returns-in_default c = too_short _ (omega arith)

pub returns-in_default-2 : goal.returns-in_default-2
returns-in_default-2 c = unclosed _ (λ e. omega arith)

pub returns-in_default-3 : goal.returns-in_default-3
returns-in_default-3 c = unopened _ (λ e. omega arith)
