-- Answers that a reading tells: an acceptance is no refusal, and a refusal is passed on.
-- Over plain lists. Assumes nothing.
use Prim.Native.Nat.{ℕ}
use mathlib.Core.Path.{◌≡◌, refl, sym, ap, ◌∙◌}
use mathlib.Core.List.{List}
use native.Mathlib.Omega.{arith}
use Rattle.std.specs.Prelude.{Ok, Err}
use Rattle.paper.specs.Answer.{Answer, accepted, refused, number_of}
use Rattle.paper.specs.declared.Accepted.{Accepted}
use Rattle.paper.specs.declared.Refused.{Refused}
use Rattle.paper.specs.declared.Told.{Told}
use Rattle.paper.specs.Found.{Found, found, fault, place_in}
use Rattle.paper.proofs.Numbers.{number_positive}
use Rattle.modes.specs.Table.{told_of}

pub number_told : {a b : Told} → a ≡ b → a.number ≡ b.number
number_told e = ap (λ (x : Told). x.number) e

pub place_told : {a b : Told} → a ≡ b → a.place ≡ b.place
place_told e = ap (λ (x : Told). x.place) e

pub count_told : {a b : Told} → a ≡ b → a.count ≡ b.count
count_told e = ap (λ (x : Told). x.count) e

-- a refusal of the table is no acceptance
pub no_acceptance : {X : Type 0} (p n q : ℕ) → accepted p n ≡ refused 1 q → X
no_acceptance p n q e = let z : ◌≡◌ {A = ℕ} 0 1 = number_told e in absurd (omega arith)

-- a refusal in the paper's numbers
abbrev pub told_refusal : Refused → Told
told_refusal r = refused (number_of r.refusal) r.place

-- what keeps the faults of an inner reading tells its refusal as it stands
pub passed_on : {A : Type 0} (many : A → ℕ) (t : List ℕ) (outer : Found A → Told)
    → ((k : ℕ) (left : List ℕ) → outer (fault k left) ≡ refused k (place_in t left))
    → (x : Found A) (r : Refused) → told_refusal r ≡ told_of many t x → told_refusal r ≡ outer x
passed_on many t outer keeps (fault k left) r e = e ∙ sym (keeps k left)
passed_on many t outer keeps (found b left) r e = absurd (number_positive r.refusal (number_told e))

-- what is no acceptance is a refusal
pub refusal_of : (a : Answer) → ((n : Accepted) → a ≡ Ok n → ⊥) → (e : Refused) × (a ≡ Err e)
refusal_of (Ok n) never = absurd (never n refl)
refusal_of (Err e) never = (e, refl)
