-- Bytes between quotes.
-- Document 01, "Canonical form".
use Rattle.std.specs.Prelude.{ℕ, Bool, not, ◌||◌, eqb, ltb}
use Rattle.paper.specs.Bytes.{byte}

-- a byte that stands for itself between two of this quote, read and written
abbrev pub is_plain : ℕ → ℕ → Bool
is_plain quote b = not ((eqb b quote || eqb b (byte "\\")) || (ltb b 32 || eqb b 127))
