-- Tests by their two cases, and ranges as two orders. Assumes nothing.
-- Document 01, "The grammar": its classes of bytes are such ranges.
use Prim.Native.Nat.{ℕ, ◌≤◌, ◌<◌}
use mathlib.Core.Path.{◌≡◌, refl, sym, ap, ◌∙◌}
use mathlib.Core.Bool.{Bool, true, false, ◌||◌}
use native.Mathlib.Omega.{arith}
use lib.Dec.{leb, eqb}
use borrow.Author.Tests.{leb-true, leb-false, le-leb, lt-leb, ne_eqb}
use Rattle.paper.specs.Bytes.{within}

-- what holds in both cases of a test holds
pub split : {X : Type 0} (test : Bool) → (test ≡ true → X) → (test ≡ false → X) → X
split true on off = on refl
split false on off = off refl

-- a test is not both
pub true_false : {X : Type 0} → true ≡ false → X
true_false e = let z : ◌≡◌ {A = ℕ} 0 1 = cc in absurd (omega arith)

-- a choice by a test that holds, and by one that does not
pub when_true : {A : Type 0} (test : Bool) (a b : A) → test ≡ true → elim test [ true ↦ a | false ↦ b ] ≡ a
when_true true a b e = refl
when_true false a b e = true_false (sym e)

pub when_false : {A : Type 0} (test : Bool) (a b : A) → test ≡ false → elim test [ true ↦ a | false ↦ b ] ≡ b
when_false true a b e = true_false e
when_false false a b e = refl

-- a number that passes a test is none that fails it
pub apart : (test : ℕ → Bool) (b c : ℕ) → test b ≡ true → test c ≡ false → eqb b c ≡ false
apart test b c e f = ne_eqb b c (λ q. true_false (sym e ∙ ap test q ∙ f))

-- one of two tests
pub either : {X : Type 0} (a b : Bool) → a || b ≡ true → (a ≡ true → X) → (b ≡ true → X) → X
either true b e on off = on refl
either false b e on off = off e

-- either of two tests is enough
pub or_left : (a b : Bool) → a ≡ true → a || b ≡ true
or_left a b e = rw e

pub or_right : (a b : Bool) → b ≡ true → a || b ≡ true
or_right true b e = refl
or_right false b e = e

-- ---- orders and ranges

pub up_to : {X : Type 0} (b high : ℕ) → (b ≤ high → X) → (high < b → X) → X
up_to b high on off = split (leb b high) (λ h. on (leb-true b high h)) (λ h. off (leb-false b high h))

module _ (low high b : ℕ) where
  pub inside : low ≤ b → b ≤ high → within low high b ≡ true
  inside l h = rw (le-leb low b l, le-leb b high h)

  pub below : b < low → within low high b ≡ false
  below h = rw (lt-leb low b h)

  pub above : high < b → within low high b ≡ false
  above h = split (leb low b) (λ e. rw (e, lt-leb b high h)) (λ e. rw e)

  pub by_range : {X : Type 0} → (low ≤ b → b ≤ high → within low high b ≡ true → X) → (within low high b ≡ false → X) → X
  by_range on off =
      split (leb low b)
      (λ l. split (leb b high) (λ h. on (leb-true low b l) (leb-true b high h) (rw (l, h))) (λ h. off (rw (l, h))))
      (λ l. off (rw l))

  pub in_range : within low high b ≡ true → (low ≤ b) × (b ≤ high)
  in_range e = by_range (λ l h w. (l, h)) (λ w. true_false (sym e ∙ w))
