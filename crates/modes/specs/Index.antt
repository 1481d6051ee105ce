-- The index of a table's names: which name each of its cells leads to, and what it lists.
-- Document 02, Three. A name is found by the numbers of those that share its key; names are numbered from 1 on, in the order of the table.
use Rattle.std.specs.Prelude.{ℕ, zero, suc, ◌+◌, ◌-◌, ◌*◌, ◌≤◌, ◌<◌, ◌%◌, ◌≡◌, Bool, Option, None, Some, Result, Ok, List, [], ◌∷◌, ◌++◌, reverse, length, get_or, take, drop, set, eqb}
use Rattle.std.specs.Coded.{×_prop, Unit-prop}
use Rattle.std.proofs.Props.{props}
use Rattle.paper.specs.Answer.{Answer, told}
use Rattle.paper.specs.declared.Accepted.{Accepted}
use Rattle.paper.specs.Found.{pick}
use Rattle.paper.specs.Bytes.{same}
use Rattle.paper.specs.Names.{name_limit}
use Rattle.paper.specs.Modes.{section_limit}
use Rattle.modes.specs.Promises.{ReadsTable}
use Rattle.modes.specs.Table.{names_of, section_at, told_of, modes_of, Valid}

-- so many keys; a table has so many names at most
abbrev pub key_count : ℕ
key_count = 32

abbrev pub name_count : ℕ
name_count = 2 * section_limit

-- the key of a name: its first and its last letter
unfoldable pub key_of : List ℕ → ℕ
key_of w = (get_or w 0 0 + get_or w (length w - 1) 0) % key_count

-- ---- names, the latest first: the number of each is how many there are from it on

-- the number of the first that passes a test, 0 where none does
unfoldable pub latest : (List ℕ → Bool) → List (List ℕ) → ℕ
latest test [] = 0
latest test (n ∷ ns) = pick (test n) (suc (length ns)) (latest test ns)

abbrev pub has_key : ℕ → List ℕ → Bool
has_key k n = eqb (key_of n) k

abbrev pub named : List ℕ → List ℕ → Bool
named w n = same n w

-- ---- the cells: one for each key, then two for each number

abbrev pub earlier_at : ℕ → ℕ
earlier_at number = key_count + number

abbrev pub place_at : ℕ → ℕ
place_at number = key_count + name_count + 1 + number

abbrev pub cell_count : ℕ
cell_count = place_at name_count + 1

-- the name's length byte is at the place, and its letters behind it
pub record Stands (t : List ℕ) (place : ℕ) (name : List ℕ) : Type 0 where
  pub inside : place < length t
  pub fits : place + 1 + get_or t place 0 ≤ length t
  pub is : name ≡ take (get_or t place 0) (drop (place + 1) t)

-- the cells of a name: the number of the latest one before it with its key, and where it stands
pub record Link (t x name : List ℕ) (before : List (List ℕ)) : Type 0 where
  pub earlier : get_or x (earlier_at (suc (length before))) 0 ≡ latest (has_key (key_of name)) before
  pub stands : Stands t (get_or x (place_at (suc (length before))) 0) name

abbrev pub Linked : List ℕ → List ℕ → List (List ℕ) → Type 0
Linked t x [] = Unit {0}
Linked t x (n ∷ ns) = Link t x n ns × Linked t x ns

-- it has one proof at most, as what a ghost field says must
Linked-prop : (t x : List ℕ) (names : List (List ℕ)) → IsProp (Linked t x names)
Linked-prop t x [] = Unit-prop
Linked-prop t x (n ∷ ns) = ×_prop (hlevel props) (Linked-prop t x ns)

-- the index lists just these names of the table
pub record Lists (t x : List ℕ) (names : List (List ℕ)) : Type 0 where
  pub long : length x ≡ cell_count
  pub heads : (k : ℕ) → k < key_count → get_or x k 0 ≡ latest (has_key k) names
  pub linked : Linked t x names
  pub few : length names ≤ name_count

-- the index lists some names
pub record Listing (t x : List ℕ) : Type 0 where
  pub names : List (List ℕ)
  pub lists : Lists t x names

-- a number that is one of a name, where 0 is none
abbrev pub numbered : ℕ → Option ℕ
numbered zero = None
numbered (suc n) = Some (suc n)

-- a search finds the number of the name w, whatever names the index lists
abbrev pub FindsNumber : List ℕ → List ℕ → List ℕ → Option ℕ → Type 0
FindsNumber t x w r = (names : List (List ℕ)) → Lists t x names → r ≡ numbered (latest (named w) names)

-- no name yet
pub record Empty (x : List ℕ) : Type 0 where
  pub long : length x ≡ cell_count
  pub none : (k : ℕ) → k < key_count → get_or x k 0 ≡ 0

-- the cells with one name more, which stands at a place
abbrev pub added : List ℕ → ℕ → ℕ → ℕ → List ℕ
added x number key place = set (set (set x (earlier_at number) (get_or x key 0)) (place_at number) place) key number

-- ---- a section and a whole table

-- the section at a place is due, behind the first so many names of the table, which the index lists
pub record Due (t : List ℕ) (at earlier : ℕ) (x : List ℕ) : Type 0 where
  pub inside : at ≤ length t
  pub near : at ≤ 1 + (1 + name_limit) * earlier
  pub few : earlier ≤ section_limit
  pub many : length (names_of earlier (drop 1 t)) ≡ earlier
  pub lists : Lists t x (reverse (names_of earlier (drop 1 t)))

-- `read_section` answers r, and if it accepts, the index lists the names of the section too
pub record ReadsSection (t : List ℕ) (at earlier : ℕ) (r : Answer) (x : List ℕ) : Type 0 where
  pub answer : told r ≡ told_of length t (section_at t earlier at)
  pub near : (a : Accepted) → r ≡ Ok a → a.place ≤ at + 1 + (1 + name_limit) * a.count
  pub lists : (a : Accepted) → r ≡ Ok a → Lists t x (reverse (names_of earlier (drop 1 t) ++ names_of a.count (drop (at + 1) t)))

-- the table is in order, and the index lists its names
pub record Indexed (t x : List ℕ) : Type 0 where
  pub valid : Valid t
  pub lists : Lists t x (reverse ((modes_of t).children ++ (modes_of t).content))

-- it has one proof at most, so that the ghost field of `Modes` may say it
pub Indexed-prop : (t x : List ℕ) → IsProp (Indexed t x)
Indexed-prop t x = hlevel (props, Linked-prop)

-- `read_into` answers r for a table, and leaves the index so
pub record ReadsInto (t : List ℕ) (r : Answer) (x : List ℕ) : Type 0 where
  pub answer : ReadsTable t r
  pub indexed : (a : Accepted) → r ≡ Ok a → Indexed t x
