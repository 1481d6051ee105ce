-- The bytes that a text in hex spells: two digits for each.
-- Of the trials' own form; a digit's value is that of document 01, "Values".
use Rattle.std.specs.Prelude.{ℕ, ◌+◌, ◌*◌, ◌≤◌, ◌≡◌, ◌&&◌, Option, None, Some, List, [], ◌∷◌, ◌++◌, length, take}
use Rattle.paper.specs.Found.{pick}
use Rattle.paper.specs.Bytes.{is_hex}
use Rattle.paper.specs.Values.{hex_digit}

-- bytes in front of those that the rest spells, if it spells any
abbrev pub onto : List ℕ → Option (List ℕ) → Option (List ℕ)
onto l None = None
onto l (Some rest) = Some (l ++ rest)

-- what a whole text spells: none where half a pair or another byte stands in it
unfoldable pub spelt : List ℕ → Option (List ℕ)
spelt [] = Some []
spelt (a ∷ []) = None
spelt (a ∷ b ∷ l) = pick (is_hex a && is_hex b) (onto ((hex_digit a * 16 + hex_digit b) ∷ []) (spelt l)) None

-- the answer for a text, with what stands in the room
abbrev pub Answers : List ℕ → Option ℕ → List ℕ → Type 0
Answers text (Some n) room = (n ≤ length room) × (spelt text ≡ Some (take n room))
Answers text None room = spelt text ≡ None
