-- The promises of the C functions have one answer only: document 01, "One answer only".
-- The promises are those that the contracts cite. Assumes nothing.
use Prim.Native.Nat.{ℕ}
use mathlib.Core.Path.{◌≡◌, sym, ◌∙◌}
use mathlib.Core.List.{List}
use Rattle.times.specs.Numbers.{TellsTime}
use Rattle.times.proofs.Braces.{one_number}
use Rattle.gateway.specs.Promises.{TellsTable, TellsSheet, TellsView, TellsForm, TellsRoll, TellsAdding}

pub one_answer_cdx_table : (table answer answer' : List ℕ) → TellsTable table answer → TellsTable table answer' → answer ≡ answer'
one_answer_cdx_table table answer answer' e e' = e ∙ sym e'

pub one_answer_cdx_sheet : (table sheet : List ℕ) (lent : ℕ) (cells cells' answer answer' : List ℕ) → TellsSheet table sheet lent cells answer
    → TellsSheet table sheet lent cells' answer' → (cells ≡ cells') × (answer ≡ answer')
one_answer_cdx_sheet table sheet lent cells cells' answer answer' p q = (p.0 ∙ sym q.0, p.1 ∙ sym q.1)

pub one_answer_cdx_view : (sheet cells : List ℕ) (entry : ℕ) (answer answer' : List ℕ) → TellsView sheet cells entry answer → TellsView sheet cells entry answer'
    → answer ≡ answer'
one_answer_cdx_view sheet cells entry answer answer' e e' = e ∙ sym e'

pub one_answer_cdx_time : (value : List ℕ) (kind kind' : ℕ) → TellsTime value kind → TellsTime value kind' → kind ≡ kind'
one_answer_cdx_time value kind kind' p q = one_number value kind kind' p q

pub one_answer_cdx_write : (table sheet : List ℕ) (lent : ℕ) (out : List ℕ) (cells cells' after after' answer answer' : List ℕ)
    → TellsForm table sheet lent out cells after answer → TellsForm table sheet lent out cells' after' answer'
    → (cells ≡ cells') × (after ≡ after') × (answer ≡ answer')
one_answer_cdx_write table sheet lent out cells cells' after after' answer answer' p q = (p.0 ∙ sym q.0, p.1 ∙ sym q.1, p.2 ∙ sym q.2)

pub one_answer_cdx_roll : (table roll : List ℕ) (records lent : ℕ) (kept kept' cells cells' answer answer' : List ℕ)
    → TellsRoll table roll records lent kept cells answer → TellsRoll table roll records lent kept' cells' answer'
    → (kept ≡ kept') × (cells ≡ cells') × (answer ≡ answer')
one_answer_cdx_roll table roll records lent kept kept' cells cells' answer answer' p q = (p.0 ∙ sym q.0, p.1 ∙ sym q.1, p.2 ∙ sym q.2)

pub one_answer_cdx_add : (table sheet roll : List ℕ) (n lent : ℕ) (after after' cells cells' answer answer' : List ℕ)
    → TellsAdding table sheet roll n lent after cells answer → TellsAdding table sheet roll n lent after' cells' answer'
    → (after ≡ after') × (cells ≡ cells') × (answer ≡ answer')
one_answer_cdx_add table sheet roll n lent after after' cells cells' answer answer' p q = (p.0 ∙ sym q.0, p.1 ∙ sym q.1, p.2 ∙ sym q.2)
