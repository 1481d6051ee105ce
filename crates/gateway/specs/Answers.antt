-- Answers for C: three numbers each.
-- Document 01, the answers of "Order" and the value view.
use Rattle.std.specs.Prelude.{ℕ, ◌<◌, ◌^◌, true, false, List, [], ◌∷◌}
use Rattle.paper.specs.declared.Told.{Told}
use Rattle.paper.specs.View.{span_start, span_end, viewable}

-- every number of an answer is one of 32 bits
abbrev pub Few : Told → Type 0
Few t = (t.place < 2 ^ 32) × (t.count < 2 ^ 32)

-- number, place and count
abbrev pub three_of : Told → List ℕ
three_of t = t.number ∷ t.place ∷ t.count ∷ []

-- number, start and end of the part that an entry's span names
unfoldable pub view_of : List ℕ → List ℕ → ℕ → List ℕ
view_of s cells n = elim (viewable s cells n) [ true ↦ 0 ∷ span_start cells n ∷ span_end cells n ∷ [] | false ↦ 17 ∷ 0 ∷ 0 ∷ [] ]
