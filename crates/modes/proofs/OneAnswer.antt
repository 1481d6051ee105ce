-- The promise of `modes::read` has one answer only: document 01, "One answer only".
-- The promise is the one that its contract cites. Assumes nothing.
use Prim.Native.Nat.{ℕ}
use mathlib.Core.Path.{◌≡◌, sym, ◌∙◌}
use mathlib.Core.List.{List}
use Rattle.paper.specs.Answer.{Answer}
use Rattle.paper.proofs.Numbers.{told_injective}
use Rattle.modes.specs.Promises.{ReadsTable}

pub one_answer_modes_read : (t : List ℕ) (r r' : Answer) → ReadsTable t r → ReadsTable t r' → r ≡ r'
one_answer_modes_read t r r' e e' = told_injective r r' (e ∙ sym e')
