-- Brackets as they are told: the one that a value begins with, and the form of what one holds.
-- Document 01, "The grammar", Values; document 02, Five.
use Rattle.std.specs.Prelude.{ℕ, Option, None, Some}
use Rattle.paper.specs.declared.brackets.Bracket.{Bracket}
use Rattle.paper.specs.Values.{bracket_form}
use Rattle.paper.specs.ReadingValues.{Opening, no_bracket, opens}

-- the bracket that a value begins with, as it is told
abbrev pub opening_of : Opening → Option Bracket
opening_of no_bracket = None
opening_of (opens k) = Some k

-- the form of what a bracket holds, and of the bracket
abbrev pub form_in : {A : Type 0} → Bracket → A → ℕ
form_in k a = bracket_form k
