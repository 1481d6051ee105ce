-- What the number and the place of an answer tell of what a reading finds. Over plain lists and any reading. Assumes nothing.
-- Document 01, "Order": an answer is number 0 and the place where what is read ends, or the number and the place of the fault.
use Prim.Native.Nat.{ℕ, ◌≤◌}
use mathlib.Core.Path.{◌≡◌, sym, ap, ◌∙◌}
use mathlib.Core.List.{List}
use native.Mathlib.Omega.{arith}
use lib.ListN.{length, drop}
use Rattle.std.specs.Prelude.{Result, Err}
use Rattle.std.specs.Result.{IsErrAnd}
use Rattle.std.proofs.lemmas.Result.{err_from_is_err_and}
use Rattle.paper.specs.declared.Refused.{Refused}
use Rattle.paper.specs.declared.Refusal.{Refusal}
use Rattle.paper.specs.Answer.{number_of}
use Rattle.paper.specs.Found.{Found, found, fault, place_in}
use Rattle.paper.proofs.Numbers.{number_positive}
use Rattle.paper.proofs.Finds.{Reads}
use Rattle.text.proofs.Places.{left_at}

-- a number and a place are those of what a reading finds
abbrev pub Tells : {A : Type 0} → List ℕ → Found A → ℕ → ℕ → Type 0
Tells s (found a left) n at = (n ≡ 0) × (at ≡ place_in s left)
Tells s (fault k left) n at = (n ≡ k) × (at ≡ place_in s left)

-- what is found by a reading from a place to an end
pub record FoundTo {A : Type 0} (P : A → List ℕ → Type 0) (s : List ℕ) (at : ℕ) (x : Found A) (end : ℕ) : Type 0 where
  pub it : A
  pub finds : x ≡ found it (drop end s)
  pub holds : P it (drop end s)
  pub ahead : at ≤ end
  pub inside : end ≤ length s

pub found_to : {A : Type 0} (P : A → List ℕ → Type 0) (s : List ℕ) (at : ℕ) (x : Found A) (end : ℕ) → Tells s x 0 end → Reads (drop at s) P x → at ≤ length s
    → FoundTo P s at x end
found_to P s at (found a left) end t h l =
    let k = left_at s at l h.0 in
    let d : left ≡ drop end s = k.same ∙ ap (λ (k : ℕ). drop k s) (sym t.1) in
    record { it = a; finds = ap (found a) d; holds = rw d at h.1; ahead = omega (arith, k.ahead, t.1); inside = omega (arith, k.inside, t.1) }
found_to P s at (fault n left) end t h l = absurd (omega (arith, t.0, h.least))

-- the fault that a refusal names
pub record FaultAt {A : Type 0} (s : List ℕ) (x : Found A) (why : Refusal) (place : ℕ) : Type 0 where
  pub left : List ℕ
  pub faults : x ≡ fault (number_of why) left
  pub there : place_in s left ≡ place

pub fault_to : {A : Type 0} (s : List ℕ) (x : Found A) (why : Refusal) (place : ℕ) → Tells s x (number_of why) place → FaultAt s x why place
fault_to s (found a left) why place t = absurd (number_positive why t.0)
fault_to s (fault n left) why place t = record { left = left; faults = ap (λ (k : ℕ). fault k left) (sym t.0); there = sym t.1 }

-- what a `?` answers where it ends a function
pub passes : {T : Type 0} {r : Result T Refused} {e : Refused} → IsErrAnd r (λ f. f ≡ e) → r ≡ Err e
passes {T} {r} h = let p = err_from_is_err_and r h in p.1 ∙ ap Err p.2
