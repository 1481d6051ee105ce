-- The names of a marker's traits so far, by where they start in the sheet, and an index that finds one.
-- Document 02, Six: no two traits of one Concept have the same name.
use Rattle.std.specs.Prelude.{ℕ, suc, ◌+◌, ◌-◌, ◌*◌, ◌/◌, ◌≤◌, ◌<◌, ◌≡◌, true, false, Option, None, Some, List, [], ◌∷◌, length, drop, get_or, leb, ltb}
use Rattle.paper.specs.Found.{pick}
use Rattle.paper.specs.Bytes.{same, all, is_name_byte}
use Rattle.paper.specs.Names.{run, among}
use Rattle.names.specs.Runs.{key_limit, key_of}

-- the name that stands at a place
abbrev pub name_at : List ℕ → ℕ → List ℕ
name_at s place = run (drop place s)

-- ---- the way of a search through the cells of an index

-- the cell where a search for a name begins, of so many
abbrev pub home : ℕ → List ℕ → ℕ
home size w = key_of w * size / key_limit

-- the cell at a step, where the first cell follows the last
abbrev pub around : ℕ → ℕ → ℕ
around size i = pick (ltb i size) i (i - size)

-- the start that the cell at a step has
abbrev pub start_at : List ℕ → ℕ → ℕ
start_at x i = get_or x (around (length x) i) 0

-- a step on the way of a name: every cell before it is taken by the marker whose traits stand from `first` on
pub record OnWay (first : ℕ) (x w : List ℕ) (i : ℕ) : Type 0 where
  pub from : home (length x) w ≤ i
  pub once : i < home (length x) w + length x
  pub taken : (j : ℕ) → home (length x) w ≤ j → j < i → first ≤ start_at x j

-- a trait with this name starts where a taken cell on its way says
pub record Held (s : List ℕ) (first : ℕ) (x w : List ℕ) : Type 0 where
  pub step : ℕ
  pub way : OnWay first x w step
  pub here : first ≤ start_at x step
  pub named : name_at s (start_at x step) ≡ w

-- a cell is on the way of a name, and no trait with this name starts where a cell before it says
pub record Reached (s : List ℕ) (first : ℕ) (x w : List ℕ) (cell : ℕ) : Type 0 where
  pub step : ℕ
  pub way : OnWay first x w step
  pub is : cell ≡ around (length x) step
  pub others : (j : ℕ) → home (length x) w ≤ j → j < step → same (name_at s (start_at x j)) w ≡ false

-- a name may be sought: it is of letters and digits, this is its key, at every start there is room for it in the sheet, and a cell is free
pub record Ready (s : List ℕ) (first : ℕ) (x : List ℕ) (key : ℕ) (w : List ℕ) : Type 0 where
  pub keyed : key ≡ key_of w
  pub some : 0 < length w
  pub letters : all is_name_byte w ≡ true
  pub inside : (c : ℕ) → get_or x c 0 + length w < length s
  pub short : length x ≤ key_limit
  pub cell : ℕ
  pub within : cell < length x
  pub free : get_or x cell 0 < first

-- what a search answers
abbrev pub Seeks : List ℕ → ℕ → List ℕ → List ℕ → Option ℕ → Type 0
Seeks s first x w None = Held s first x w
Seeks s first x w (Some cell) = Reached s first x w cell × (get_or x cell 0 < first)

-- ---- what is known of the names so far

-- how many cells have starts of the marker whose traits stand from `first` on
unfoldable pub taken_in : ℕ → List ℕ → ℕ
taken_in first [] = 0
taken_in first (p ∷ x) = pick (leb first p) (suc (taken_in first x)) (taken_in first x)

-- these names are listed, and no others
pub record Lists (s : List ℕ) (first : ℕ) (x : List ℕ) (names : List (List ℕ)) : Type 0 where
  pub few : taken_in first x ≤ length names
  pub only : (c : ℕ) → c < length x → first ≤ get_or x c 0 → among names (name_at s (get_or x c 0)) ≡ true
  pub each : (w : List ℕ) → among names w ≡ true → Held s first x w
