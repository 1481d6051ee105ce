-- One level deeper, or no further.
-- Document 01, "Sizes": thirty-two Concepts and eight lists deep; document 02, Five: brackets of every kind count as lists do.
use Rattle.std.specs.Prelude.{ℕ, ◌-◌, Option, None, Some, eqb}
use Rattle.paper.specs.Found.{pick}
use Rattle.text.specs.declared.nesting.Nesting.{Nesting}

-- what opening one more leaves, where so many are left
abbrev pub one_deeper : ℕ → Option Nesting
one_deeper left = pick (eqb left 0) None (Some (record { left = left - 1 }))
