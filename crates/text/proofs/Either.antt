-- What code leaves of `p || q`: the first half where that holds, else the second.
-- Of booleans alone. Assumes nothing.
use mathlib.Core.Path.{◌≡◌, sym, ◌∙◌}
use mathlib.Core.Bool.{Bool, true, false, ◌||◌}

pub either_first : {p r : Bool} (q : Bool) → r ≡ p → r ≡ true → r ≡ (p || q)
either_first q e t = rw (sym e ∙ t) t

pub either_second : {p q a r : Bool} → a ≡ p → a ≡ false → r ≡ q → r ≡ (p || q)
either_second e f h = rw (sym e ∙ f) h
