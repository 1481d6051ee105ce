-- The mode table: the bytes of its two sections and their rule, how it is read, and what it says of a name.
-- Document 01, "The mode table", and refusal 1.
use Rattle.std.specs.Prelude.{ℕ, zero, suc, ◌+◌, ◌≡◌, Bool, true, false, not, ◌&&◌, length, take, drop, leb}
use mathlib.Core.List.{List, [], ◌∷◌, ◌++◌, flatten}
use Rattle.paper.specs.declared.Mode.{Mode}
use Rattle.paper.specs.declared.Mode.TheVariants.{Children, Content, Absent}
use Rattle.paper.specs.Answer.{accepted, refused}
use Rattle.paper.specs.declared.Told.{Told}
use Rattle.paper.specs.Found.{Found, found, fault, and_then, place_in}
use Rattle.paper.specs.Bytes.{within, all}
use Rattle.paper.specs.Names.{name_limit, is_concept_name, among, distinct}

abbrev pub section_limit : ℕ
section_limit = 64

pub record Modes : Type 0 where
  pub children : List (List ℕ)
  pub content : List (List ℕ)

-- ---- the bytes of a table, and its rule

-- its sections, in their order
abbrev pub sections : Modes → List (List (List ℕ))
sections m = m.children ∷ m.content ∷ []

-- names, each a length byte and its letters, in front of what follows
unfoldable pub names_onto : List (List ℕ) → List ℕ → List ℕ
names_onto [] next = next
names_onto (w ∷ ws) next = length w ∷ (w ++ names_onto ws next)

-- sections, each a count byte and that many names
unfoldable pub sections_onto : List (List (List ℕ)) → List ℕ
sections_onto [] = []
sections_onto (ws ∷ others) = length ws ∷ names_onto ws (sections_onto others)

unfoldable pub table_onto : Modes → List ℕ
table_onto m = sections_onto (sections m)

-- at most so many names, each of them a Concept's by the name rule, of 1 to 32 bytes
unfoldable pub section_rule : List (List ℕ) → Bool
section_rule ws = leb (length ws) section_limit && all is_concept_name ws

-- and no name stands twice, in one section or in two
unfoldable pub table_rule : Modes → Bool
table_rule m = all section_rule (sections m) && distinct (flatten (sections m))

-- a valid table, and its modes
pub record ValidTable (table : List ℕ) (m : Modes) : Type 0 where
  pub covers : table_onto m ≡ table
  pub rule : table_rule m ≡ true

-- ---- reading a table

-- so many names, each a length byte and its letters; `before` are those that stand earlier in either section
unfoldable pub table_names : ℕ → List (List ℕ) → List ℕ → Found (List (List ℕ))
table_names zero before s = found [] s
table_names (suc n) before [] = fault 1 []
table_names (suc n) before (size ∷ s) =
    elim (within 1 name_limit size) [
      | false ↦ fault 1 (size ∷ s)
      | true ↦ elim (leb size (length s)) [
        | false ↦ fault 1 []
        | true ↦ elim (is_concept_name (take size s) && not (among before (take size s))) [
          | false ↦ fault 1 s
          | true ↦ and_then (table_names n (before ++ (take size s ∷ [])) (drop size s)) (λ names left. found (take size s ∷ names) left)
        ]
      ]
    ]

-- a section: a count byte and that many names
unfoldable pub section : List (List ℕ) → List ℕ → Found (List (List ℕ))
section before [] = fault 1 []
section before (n ∷ s) = elim (leb n section_limit) [ true ↦ table_names n before s | false ↦ fault 1 (n ∷ s) ]

-- nothing is left over
unfoldable pub wholly : Modes → List ℕ → Found Modes
wholly m [] = found m []
wholly m (b ∷ l) = fault 1 (b ∷ l)

-- a whole table: two sections, the names of the second not among those of the first
unfoldable pub mode_table : List ℕ → Found Modes
mode_table s =
    and_then (section [] s) (λ children left. and_then (section children left) (λ content spare.
    wholly (record { children = children; content = content }) spare))

-- the answer of reading a table: 0, its length and the names of both sections, or 1 and its place
unfoldable pub read_table : List ℕ → Told
read_table s =
    elim (mode_table s) [ found m left ↦ accepted (length s) (length m.children + length m.content) | fault n left ↦ refused n (place_in s left) ]

-- ---- looking a name up

-- the mode of a Concept's name
unfoldable pub mode_of : Modes → List ℕ → Mode
mode_of m w = elim (among m.children w) [ true ↦ Children | false ↦ elim (among m.content w) [ true ↦ Content | false ↦ Absent ] ]
