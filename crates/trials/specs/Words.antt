-- Words of a line: bytes up to a space. Cells that words spell.
-- Of the trials' own form.
use Rattle.std.specs.Prelude.{ℕ, ◌≤◌, Bool, not, Option, None, Some, List, eqb, length}
use Rattle.paper.specs.Bytes.{space}

abbrev pub in_word : ℕ → Bool
in_word b = not (eqb b space)

-- the cells that an answer tells of stand in those lent
abbrev pub Held : Option ℕ → List ℕ → Type 0
Held (Some n) cells = n ≤ length cells
Held None cells = Unit {0}
