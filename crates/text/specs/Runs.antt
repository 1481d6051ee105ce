-- Classes of bytes that have no name in the paper, and places that are all of a kind.
-- Document 01, "The grammar", Names, Lines, Markers and Values.
use Rattle.std.specs.Prelude.{ℕ, ◌+◌, ◌≤◌, ◌<◌, ◌≡◌, List, Bool, not, ◌||◌, length, drop}
use Rattle.paper.specs.Bytes.{bytes, is_name_byte, is_line_end, elem, length_in}

-- what the scheme of an IRI is made of
abbrev pub is_scheme_byte : ℕ → Bool
is_scheme_byte b = is_name_byte b || elem b (bytes "+-.")

-- no line end
abbrev pub is_text : ℕ → Bool
is_text b = not (is_line_end b)

-- a place ahead, up to which all is of the class: the run from there on ends where the run from here on ends
abbrev pub Skips : (ℕ → Bool) → List ℕ → ℕ → ℕ → Type 0
Skips class s at next = (at ≤ next) × (next ≤ length s) × (next + length_in class (drop next s) ≡ at + length_in class (drop at s))

-- all places from one to another are of a kind
pub record AllFrom (kind : ℕ → Type 0) (at end : ℕ) : Type 0 where
  pub ahead : at ≤ end
  pub each : (i : ℕ) → at ≤ i → i < end → kind i
