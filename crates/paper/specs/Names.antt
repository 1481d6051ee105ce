-- Names: the run of letters and digits that stands somewhere, and the rule for Concepts and traits.
-- Document 01, "The grammar", Names, and "Sizes".
use Rattle.std.specs.Prelude.{ℕ, ◌+◌, Bool, true, false, not, ◌&&◌, List, [], ◌∷◌, length, leb, ltb}
use Rattle.paper.specs.Bytes.{is_upper, is_lower, is_name_byte, starts_in, front, behind, same}

-- names are at most so many bytes
abbrev pub name_limit : ℕ
name_limit = 32

-- the run of letters and digits in front, and what is left behind it
abbrev pub run : List ℕ → List ℕ
run s = front is_name_byte s

abbrev pub past_run : List ℕ → List ℕ
past_run s = behind is_name_byte s

-- all letters and digits, and no three upper case letters in a row, where so many stand directly before
unfoldable pub few_capitals : ℕ → List ℕ → Bool
few_capitals before [] = true
few_capitals before (b ∷ l) =
    elim (is_upper b) [
      | true ↦ elim (ltb before 2) [ true ↦ few_capitals (before + 1) l | false ↦ false ]
      | false ↦ elim (is_name_byte b) [ true ↦ few_capitals 0 l | false ↦ false ]
    ]

-- the name rule, for names that start in a class
unfoldable pub name_rule : (ℕ → Bool) → List ℕ → Bool
name_rule class w = starts_in class w && few_capitals 0 w

-- the rule and the limit: starts in the class, and is at most so long
unfoldable pub is_name : (ℕ → Bool) → ℕ → List ℕ → Bool
is_name class limit w = name_rule class w && leb (length w) limit

abbrev pub is_concept_name : List ℕ → Bool
is_concept_name = is_name is_upper name_limit

abbrev pub is_trait_name : List ℕ → Bool
is_trait_name = is_name is_lower name_limit

-- the name is one of these
unfoldable pub among : List (List ℕ) → List ℕ → Bool
among [] w = false
among (n ∷ ns) w = elim (same n w) [ true ↦ true | false ↦ among ns w ]

-- no two of the names are the same
unfoldable pub distinct : List (List ℕ) → Bool
distinct [] = true
distinct (w ∷ ws) = not (among ws w) && distinct ws
