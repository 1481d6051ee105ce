-- Pieces between backticks, byte by byte.
-- Document 01, "Values", backtick.
use Rattle.std.specs.Prelude.{ℕ, ◌+◌, ◌≡◌, Bool, true, List, [], ◌∷◌, drop, get_or}
use Rattle.paper.specs.Values.{Piece, pieces_onto, pieces_mean, backtick_rule}

-- the first byte that these pieces stand for is the one at a place, and the others go on behind it
pub record First (w : List ℕ) (at : ℕ) (ps : List Piece) : Type 0 where
  pub rest : List Piece
  pub after : Bool
  pub means : pieces_mean ps ≡ get_or w at 0 ∷ pieces_mean rest
  pub left : drop (at + 1) w ≡ pieces_onto rest []
  pub rule : backtick_rule after rest ≡ true
