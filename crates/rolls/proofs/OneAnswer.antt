-- The promises of this crate's public functions have one answer only: document 01, "One answer only".
-- The promises are those that the contracts cite. Assumes nothing.
use Prim.Native.Nat.{ℕ}
use mathlib.Core.Path.{◌≡◌, sym, ap, ◌∙◌}
use mathlib.Core.List.{List}
use Rattle.paper.specs.Answer.{Answer}
use Rattle.paper.specs.Roll.{RollReading}
use Rattle.paper.specs.Writing.{Writing}
use Rattle.paper.proofs.Numbers.{told_injective}
use Rattle.rolls.specs.Promises.{ReadsRoll, AddsSheet}

pub one_answer_rolls_read : (table roll : List ℕ) (records lent : ℕ) (r r' : Answer) (kept kept' cells cells' : List ℕ) → ReadsRoll table roll records lent r kept cells
    → ReadsRoll table roll records lent r' kept' cells' → (r ≡ r') × (kept ≡ kept') × (cells ≡ cells')
one_answer_rolls_read table roll records lent r r' kept kept' cells cells' e e' =
    let q = e ∙ sym e' in (
      told_injective r r' (ap (λ (x : RollReading). x.answer) q),
      ap (λ (x : RollReading). x.records) q,
      ap (λ (x : RollReading). x.cells) q,
    )

pub one_answer_rolls_add : (table sheet roll : List ℕ) (n lent : ℕ) (r r' : Answer) (after after' cells cells' : List ℕ)
    → AddsSheet table sheet roll n lent r after cells → AddsSheet table sheet roll n lent r' after' cells' → (r ≡ r') × (after ≡ after') × (cells ≡ cells')
one_answer_rolls_add table sheet roll n lent r r' after after' cells cells' e e' =
    let q = e ∙ sym e' in
    (told_injective r r' (ap (λ (x : Writing). x.answer) q), ap (λ (x : Writing). x.out) q, ap (λ (x : Writing). x.cells) q)
