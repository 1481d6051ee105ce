-- The run of letters and digits at a place, measured and judged, and its key.
-- Document 01, "The grammar", Names, and "Sizes"; document 02, Six, for the key.
use Rattle.std.specs.Prelude.{ℕ, ◌+◌, ◌*◌, ◌%◌, ◌≤◌, ◌≡◌, Bool, ◌&&◌, List, [], ◌∷◌, length, drop, leb}
use Rattle.paper.specs.Bytes.{is_name_byte, length_in}
use Rattle.paper.specs.Names.{name_limit, run, few_capitals}
use Rattle.names.specs.declared.Run.{Run}

-- the rule but for how a name starts: letters and digits, few capitals in a row, within the limit
abbrev pub kept : List ℕ → Bool
kept w = few_capitals 0 w && leb (length w) name_limit

-- the key of a name: each letter is added and the sum multiplied, and so many keys there are
abbrev pub key_limit : ℕ
key_limit = 65536

unfoldable pub key_from : ℕ → List ℕ → ℕ
key_from key [] = key
key_from key (b ∷ w) = key_from ((key + b) * 40503 % key_limit) w

abbrev pub key_of : List ℕ → ℕ
key_of w = key_from 0 w

-- where the run at a place ends, whether it keeps the rule but for its start, and its key
pub record Measures (s : List ℕ) (at : ℕ) (r : Run) : Type 0 where
  pub ends : (r.end ≡ at + length_in is_name_byte (drop at s)) × (at ≤ r.end) × (r.end ≤ length s)
  pub judged : r.keeps ≡ kept (run (drop at s))
  pub keyed : r.key ≡ key_of (run (drop at s))
