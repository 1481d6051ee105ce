-- The promises of this crate's public functions have one answer only: document 01, "One answer only"; and what `read` accepts, by the grammar.
-- The promises are those that the contracts cite. Assumes nothing.
use Prim.Native.Nat.{ℕ}
use mathlib.Core.Path.{◌≡◌, sym, ap, ◌∙◌}
use mathlib.Core.List.{List}
use mathlib.Core.Logic.{◌↔◌}
use lib.ListN.{length}
use Rattle.std.specs.Prelude.{Ok}
use Rattle.paper.specs.Answer.{Answer}
use Rattle.paper.specs.Entries.{Entry, filled}
use Rattle.paper.specs.Reading.{Reading}
use Rattle.paper.proofs.Numbers.{told_injective}
use Rattle.paper.proofs.Exactly.{Exactly, accepted_exactly}
use Rattle.sheets.specs.Promises.{ReadsSheet, Views, ViewAnswers}

pub one_answer_sheets_read : (table sheet : List ℕ) (lent : ℕ) (r r' : Answer) (cells cells' : List ℕ) → ReadsSheet table sheet lent r cells
    → ReadsSheet table sheet lent r' cells' → (r ≡ r') × (cells ≡ cells')
one_answer_sheets_read table sheet lent r r' cells cells' e e' =
    let q = e ∙ sym e' in
    (told_injective r r' (ap (λ (x : Reading). x.answer) q), ap (λ (x : Reading). x.cells) q)

pub one_answer_sheets_view : (sheet cells : List ℕ) (n : ℕ) (r r' : List ℕ) → Views sheet cells n r → Views sheet cells n r' → r ≡ r'
one_answer_sheets_view sheet cells n r r' e e' = e ∙ sym e'

pub one_answer_sheets_view_answer : (sheet cells : List ℕ) (n : ℕ) (r r' : Answer) → ViewAnswers sheet cells n r → ViewAnswers sheet cells n r' → r ≡ r'
one_answer_sheets_view_answer sheet cells n r r' e e' = told_injective r r' (e ∙ sym e')

-- `read` accepts with these entries exactly when the table is valid, a tree derives the sheet within the limits, and its entries are these and fit
pub read_accepts_exactly : (table sheet : List ℕ) (lent : ℕ) (r : Answer) (cells : List ℕ) → ReadsSheet table sheet lent r cells → (es : List Entry)
    → ((r ≡ Ok (record { place = length sheet; count = length es })) × (cells ≡ filled lent es)) ↔ Exactly table sheet lent es
read_accepts_exactly table sheet lent r cells e es = (forth, back)
  where
    forth : (r ≡ Ok (record { place = length sheet; count = length es })) × (cells ≡ filled lent es) → Exactly table sheet lent es
    forth h = (accepted_exactly table sheet lent es).0 (sym e ∙ rw (h.0, h.1))

    back : Exactly table sheet lent es → (r ≡ Ok (record { place = length sheet; count = length es })) × (cells ≡ filled lent es)
    back x =
        let q = e ∙ (accepted_exactly table sheet lent es).1 x in
        (told_injective r (Ok (record { place = length sheet; count = length es })) (ap (λ (x : Reading). x.answer) q), ap (λ (x : Reading). x.cells) q)
