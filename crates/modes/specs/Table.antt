-- The mode table by its places: names that stand one after another, and a reading as an answer.
-- Document 01, "The mode table"; what is right is said by the paper's definitions, which these tie to places.
use Rattle.std.specs.Prelude.{ℕ, zero, suc, ◌+◌, ◌≤◌, ◌≡◌, true, false, Result, Ok, Err, List, [], ◌∷◌, length, take, drop, leb}
use Rattle.paper.specs.Answer.{accepted, refused, number_of}
use Rattle.paper.specs.declared.Refused.{Refused}
use Rattle.paper.specs.declared.Told.{Told}
use Rattle.paper.specs.Found.{Found, found, fault, place_in}
use Rattle.paper.specs.Bytes.{within}
use Rattle.paper.specs.Names.{name_limit, is_concept_name}
use Rattle.paper.specs.Modes.{Modes, section, mode_table}

-- so many names from the front, each a length byte and its letters, unchecked
unfoldable pub names_of : ℕ → List ℕ → List (List ℕ)
names_of zero s = []
names_of (suc n) [] = []
names_of (suc n) (size ∷ s) = take size s ∷ names_of n (drop size s)

-- how many bytes they take; a name that isn't there is due its length byte
unfoldable pub size_of : ℕ → List ℕ → ℕ
size_of zero s = 0
size_of (suc n) [] = 1
size_of (suc n) (size ∷ s) = suc (size + size_of n (drop size s))

-- they are all there
abbrev pub Whole : ℕ → List ℕ → Type 0
Whole n s = size_of n s ≤ length s

-- the section at a place, behind the first so many names of the table
abbrev pub section_at : List ℕ → ℕ → ℕ → Found (List (List ℕ))
section_at t earlier at = section (names_of earlier (drop 1 t)) (drop at t)

-- a name by itself: its length in range, its bytes there, the name rule
unfoldable pub name_at : List ℕ → Found (List ℕ)
name_at [] = fault 1 []
name_at (size ∷ s) =
    elim (within 1 name_limit size) [
      | false ↦ fault 1 (size ∷ s)
      | true ↦ elim (leb size (length s)) [
        | false ↦ fault 1 []
        | true ↦ elim (is_concept_name (take size s)) [ false ↦ fault 1 s | true ↦ found (take size s) (drop size s) ]
      ]
    ]

-- a reading as an answer: its place in the whole, and how many it found
abbrev pub told_of : {A : Type 0} → (A → ℕ) → List ℕ → Found A → Told
told_of many whole (found a left) = accepted (place_in whole left) (many a)
told_of many whole (fault n left) = refused n (place_in whole left)

abbrev pub one : List ℕ → ℕ
one w = 1

-- one name that is read up to a place, or its refusal, as an answer
abbrev pub told_name : Result ℕ Refused → Told
told_name (Ok end) = accepted end 1
told_name (Err r) = refused (number_of r.refusal) r.place

-- the modes of a table, none where it is refused
unfoldable pub modes_of : List ℕ → Modes
modes_of t = elim (mode_table t) [ found m left ↦ m | fault n left ↦ record { children = []; content = [] } ]

-- the table is in order
abbrev pub Valid : List ℕ → Type 0
Valid t = mode_table t ≡ found (modes_of t) []
