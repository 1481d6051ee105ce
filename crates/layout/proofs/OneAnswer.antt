-- The promise of this crate's public function has one answer only: document 01, "One answer only". Over the paper's definitions. Assumes nothing.
use Prim.Native.Nat.{ℕ}
use mathlib.Core.Path.{◌≡◌, sym, ap, ◌∙◌}
use mathlib.Core.List.{List}
use Rattle.paper.specs.Answer.{Answer}
use Rattle.paper.specs.Writing.{Writing}
use Rattle.paper.proofs.Numbers.{told_injective}
use Rattle.layout.specs.Promises.{WritesSheet}

pub one_answer_layout_write : (table sheet : List ℕ) (lent : ℕ) (out : List ℕ) (r r' : Answer) (after after' cells cells' : List ℕ)
    → WritesSheet table sheet lent out r after cells → WritesSheet table sheet lent out r' after' cells' → (r ≡ r') × (after ≡ after') × (cells ≡ cells')
one_answer_layout_write table sheet lent out r r' after after' cells cells' e e' =
    let q = e ∙ sym e' in
    (told_injective r r' (ap (λ (x : Writing). x.answer) q), ap (λ (x : Writing). x.out) q, ap (λ (x : Writing). x.cells) q)
