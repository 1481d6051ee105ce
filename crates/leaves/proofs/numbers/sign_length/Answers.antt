-- A law for each way out.
use mathlib.Core.Logic.{⊎_elim}
use native.Mathlib.Omega.{arith}
use Rattle.leaves.proofs.Integers.{one_of_two, sign_missing, sign_there}
use Rattle.leaves.proofs.numbers.sign_length.Goals as goal

pub returns-in-43 : goal.returns-in-43
returns-in-43 c = (sign_there _ c.in-43.len_at_least (one_of_two _ _ _ (λ n. omega arith)), omega arith)

pub returns-in_default : goal.returns-in_default
returns-in_default c = (sign_missing _ (λ h e. omega arith), omega arith)

pub returns-in_default-2 : goal.returns-in_default-2
returns-in_default-2 c = (sign_missing _ (λ h e. ⊎_elim (λ p. omega arith) (λ m. omega arith) e), omega arith)
