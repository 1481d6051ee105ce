-- Runs of things (`many`): what they read, and that fuel above the length does not matter. Assumes nothing.
use Prim.Native.Nat.{ℕ, zero, suc, ◌<◌}
use mathlib.Core.Path.{◌≡◌, refl, ap, ◌∙◌}
use mathlib.Core.Logic.{inl}
use mathlib.Core.List.{List, [], ◌∷◌}
use native.Mathlib.Omega.{arith}
use lib.ListN.{length}
use Rattle.paper.specs.Found.{Found, found, fault, and_then, Turn, more, over, stop, go_on, many, run_of}
use Rattle.paper.proofs.Finds.{whole, Reads, reads_in, Turns}

-- ---- what a run reads

-- what is said of a turn, of the end of the run, and so of the whole run, each behind what the things before leave
pub record Says (A B : Type 0) : Type 1 where
  pub of_turn : B → List ℕ → A → List ℕ → Type 0
  pub of_end : B → List ℕ → List ℕ → Type 0
  pub of_run : B → List ℕ → List A → List ℕ → Type 0

module _ {A B : Type 0} (with : B → A → B) (turn : B → List ℕ → Turn A) (say : Says A B) where
  pub many_reads : ((so_far : B) (s : List ℕ) → Turns s (say.of_turn so_far s) (say.of_end so_far s) (turn so_far s))
      → ((so_far : B) (s left : List ℕ) → say.of_end so_far s left → say.of_run so_far s [] left)
      → ((so_far : B) (s : List ℕ) (a : A) (mid : List ℕ) (things : List A) (left : List ℕ) → say.of_turn so_far s a mid → say.of_run (with so_far a) mid things left →
      say.of_run so_far s (a ∷ things) left)
      → (fuel : ℕ) (so_far : B) (s : List ℕ) → Reads s (say.of_run so_far s) (many with turn fuel so_far s)
  unfolding many
  many_reads turns ends goes zero so_far s = record { least = omega arith; most = inl (omega arith); tail = whole }
  many_reads turns ends goes (suc fuel) so_far s = go (turn so_far s) (turns so_far s) (many_reads turns ends goes fuel)
    where
      after : (a : A) (mid : List ℕ) → say.of_turn so_far s a mid → (x : Found (List A)) → Reads mid (say.of_run (with so_far a) mid) x
          → Reads mid (say.of_run so_far s) (and_then x (λ things end. found (a ∷ things) end))
      after a mid t (found things left) h = (h.0, goes so_far s a mid things left t h.1)
      after a mid t (fault n left) h = h

      go : (x : Turn A) → Turns s (say.of_turn so_far s) (say.of_end so_far s) x
          → ((so_far : B) (s : List ℕ) → Reads s (say.of_run so_far s) (many with turn fuel so_far s))
          → Reads s (say.of_run so_far s) (go_on (λ a left. many with turn fuel (with so_far a) left) x)
      go (more a mid) h again =
          reads_in h.0 (say.of_run so_far s) (and_then (many with turn fuel (with so_far a) mid) (λ things end. found (a ∷ things) end))
          (after a mid h.1 (many with turn fuel (with so_far a) mid) (again (with so_far a) mid))
      go (over left) h again = (h.0, ends so_far s left h.1)
      go (stop n left) h again = h

-- ---- fuel above the length does not matter

-- a turn takes a byte at least
abbrev pub Shorter : {A : Type 0} → List ℕ → Turn A → Type 0
Shorter s (more a left) = length left < length s
Shorter s (over left) = Unit {0}
Shorter s (stop n left) = Unit {0}

-- it does if what is said of it says so
pub turns_shorter : {A : Type 0} (s : List ℕ) (P : A → List ℕ → Type 0) (E : List ℕ → Type 0) → ((a : A) (left : List ℕ) → P a left → length left < length s)
    → (x : Turn A) → Turns s P E x → Shorter s x
turns_shorter s P E f (more a left) h = f a left h.1
turns_shorter s P E f (over left) h = tt
turns_shorter s P E f (stop n left) h = tt

go_on_lem : {A : Type 0} (s : List ℕ) (x : Turn A) (f g : A → List ℕ → Found (List A)) → Shorter s x
    → ((a : A) (left : List ℕ) → length left < length s → f a left ≡ g a left) → go_on f x ≡ go_on g x
go_on_lem s (more a left) f g h e = ap (λ y. and_then y (λ things end. found (a ∷ things) end)) (e a left h)
go_on_lem s (over left) f g h e = refl
go_on_lem s (stop n left) f g h e = refl

module _ {A B : Type 0} (with : B → A → B) (turn : B → List ℕ → Turn A) (shorter : (so_far : B) (s : List ℕ) → Shorter s (turn so_far s)) where
  pub many_fuel : (f g : ℕ) (so_far : B) (s : List ℕ) → length s < f → length s < g → many with turn f so_far s ≡ many with turn g so_far s
  unfolding many
  many_fuel zero g so_far s h k = absurd (omega arith)
  many_fuel (suc f) zero so_far s h k = absurd (omega arith)
  many_fuel (suc f) (suc g) so_far s h k = go_on_lem s (turn so_far s) _ _ (shorter so_far s) (λ a left l. many_fuel f g (with so_far a) left (omega arith) (omega arith))

  -- a run by its first turn
  pub many_turn : (fuel : ℕ) (so_far : B) (s : List ℕ) → length s < fuel → many with turn fuel so_far s ≡ go_on (λ a left. run_of with turn (with so_far a) left) (turn so_far s)
  unfolding many
  many_turn zero so_far s h = absurd (omega arith)
  many_turn (suc fuel) so_far s h =
      go_on_lem s (turn so_far s) _ _ (shorter so_far s) (λ a left l. many_fuel fuel (suc (length left)) (with so_far a) left (omega arith) (omega arith))

  pub run_more : (so_far : B) (s : List ℕ) (a : A) (mid : List ℕ) (things : List A) (left : List ℕ) → turn so_far s ≡ more a mid
      → run_of with turn (with so_far a) mid ≡ found things left → run_of with turn so_far s ≡ found (a ∷ things) left
  run_more so_far s a mid things left e f = many_turn (suc (length s)) so_far s (omega arith) ∙ rw (e, f)

  pub run_over : (so_far : B) (s left : List ℕ) → turn so_far s ≡ over left → run_of with turn so_far s ≡ found [] left
  run_over so_far s left e = many_turn (suc (length s)) so_far s (omega arith) ∙ rw e

  -- a fault, at once or behind a thing
  pub run_stop : (so_far : B) (s : List ℕ) (n : ℕ) (left : List ℕ) → turn so_far s ≡ stop n left → run_of with turn so_far s ≡ fault n left
  run_stop so_far s n left e = many_turn (suc (length s)) so_far s (omega arith) ∙ rw e

  pub run_on : (so_far : B) (s : List ℕ) (a : A) (mid : List ℕ) (n : ℕ) (left : List ℕ) → turn so_far s ≡ more a mid
      → run_of with turn (with so_far a) mid ≡ fault n left → run_of with turn so_far s ≡ fault n left
  run_on so_far s a mid n left e f = many_turn (suc (length s)) so_far s (omega arith) ∙ rw (e, f)
