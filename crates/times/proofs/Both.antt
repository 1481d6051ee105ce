-- What code leaves of `p && q`: false where the first half fails, else the second. Assumes nothing.
use Prim.Native.Nat.{ℕ}
use mathlib.Core.Path.{◌≡◌, ◌∙◌}
use mathlib.Core.Bool.{Bool, true, false, ◌&&◌}
use Rattle.std.specs.Prelude.{Option, None, Some, MatchOption}

pub both_first : {p a r : Bool} (q : Bool) → a ≡ p → a ≡ false → r ≡ a → r ≡ (p && q)
both_first q e f g = rw (← e, f) (g ∙ f)

pub both_second : {p q a r : Bool} → a ≡ p → a ≡ true → r ≡ q → r ≡ (p && q)
both_second e f g = rw (← e, f) g

-- And of a number that is found where a test holds, and judged by another.
pub where_found : (o : Option ℕ) (r test : Bool) (n : ℕ) (judge : ℕ → Bool) {Says : ℕ → Type 0} → MatchOption o (test ≡ false) (λ m. (test ≡ true) × (m ≡ n))
    → MatchOption o (r ≡ false) Says → ((m : ℕ) → Says m → r ≡ judge m) → r ≡ (test && judge n)
where_found None r test n judge e f says = rw (e, f)
where_found (Some m) r test n judge e f says = rw (e.0, ← e.1) (says m f)
