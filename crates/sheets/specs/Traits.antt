-- Traits that are read under the paper's limits behind earlier ones, and the entries of one by the place of its name.
-- Document 01, "The grammar", Markers, "Sizes" and "Entries", and document 02, Six.
use Rattle.std.specs.Prelude.{ℕ, ◌+◌, ◌-◌, ◌*◌, ◌≤◌, ◌<◌, ◌≡◌, ◌⊎◌, Result, Ok, List, [], ◌∷◌, ◌++◌, length, drop, get_or}
use Rattle.paper.specs.declared.Refused.{Refused}
use Rattle.paper.specs.Found.{Found, and_then}
use Rattle.paper.specs.Limits.{bracket_limit, entry_limit}
use Rattle.paper.specs.Values.{value_form}
use Rattle.paper.specs.Tree.{Trait}
use Rattle.paper.specs.ReadingValues.{value_of}
use Rattle.paper.specs.Entries.{Entry, value_width, items_of, item_entries, trait_size, traits_size, trait_entries}
use Rattle.paper.specs.Reading.{bounds, enters, Earlier, trait, traits_behind, no_trait}
use Rattle.entries.specs.declared.Slot.{Slot}
use Rattle.values.specs.Entering.{left_of}
use Rattle.lines.specs.Parts.{Makes}
use Rattle.lines.specs.declared.part.Part.{Part}
use Rattle.names.specs.Runs.{key_limit}
use Rattle.earlier.specs.Earlier.{name_at, Lists}

-- the traits of a marker
abbrev pub traits_of : ℕ → List ℕ → Found (List Trait)
traits_of room s = traits_behind bounds (no_trait room) s

-- what the traits before a slot leave: their names, and the room for more entries
abbrev pub behind_names : List (List ℕ) → Slot → Earlier
behind_names names slot = record { names = names; room = left_of slot }

-- an index of names while a sheet is read: every start in it lies before a place, and it has more cells than any marker of the sheet has traits,
-- since each of these makes an entry and takes two bytes
pub record NamesBefore (s : List ℕ) (place : ℕ) (x : List ℕ) : Type 0 where
  pub before : (c : ℕ) → get_or x c 0 < place
  pub roomy : (length s ≤ 2 * length x) ⊎ (entry_limit < length x)
  pub short : length x ≤ key_limit

-- a trait from its value on, which is due in front of s; `named` is the list from its name on
abbrev pub value_in : ℕ → List ℕ → List ℕ → List ℕ → List ℕ → Found Trait
value_in room named white w s = and_then (value_of bracket_limit [] s) (λ v left. enters room named s (record { white = white; name = w; value = v }) left)

-- the entry of a trait whose name starts at `at`; and with those of its items
abbrev pub own_entry : ℕ → ℕ → Trait → Entry
own_entry parent at t =
    record {
      kind = 2;
      form = value_form t.value;
      parent = parent;
      count = items_of t.value;
      name_start = at;
      name_end = at + length t.name;
      start = at + length t.name + 1;
      end = at + length t.name + 1 + value_width t.value;
    }

abbrev pub one_trait : ℕ → ℕ → ℕ → Trait → List Entry
one_trait parent next at t = own_entry parent at t ∷ item_entries next (next + 1) (at + length t.name + 1) t.value

-- a trait whose name stands at a place was read as x, and is entered
abbrev pub MakesTrait : List ℕ → ℕ → List ℕ → Slot → Found Trait → Result Part Refused → List ℕ → Type 0
MakesTrait s at cells slot x r after = Makes trait_size (λ t. 1) (one_trait slot.parent slot.next at) s cells slot.next x r after

-- the same from its value on, behind the "=" that stands at `to`, whatever white space and name it has
abbrev pub MakesValued : List ℕ → ℕ → ℕ → List ℕ → Slot → Result Part Refused → List ℕ → Type 0
MakesValued s from to cells slot r after =
    (white w : List ℕ) → length w ≡ to - from → MakesTrait s from cells slot (value_in (left_of slot) (drop from s) white w (drop (to + 1) s)) r after

-- the same from its name on, behind traits of these names, whatever white space it has
abbrev pub MakesBehind : List ℕ → ℕ → List ℕ → Slot → List (List ℕ) → Result Part Refused → List ℕ → Type 0
MakesBehind s at cells slot names r after = (white : List ℕ) → MakesTrait s at cells slot (trait bounds (behind_names names slot) white (drop at s)) r after

-- the same behind traits of any names that the index x lists; where it is read the index y lists its name too
pub record MakesNamed (s : List ℕ) (first at : ℕ) (cells : List ℕ) (slot : Slot) (x : List ℕ) (r : Result Part Refused) (after y : List ℕ) : Type 0 where
  pub made : (names : List (List ℕ)) → Lists s first x names → MakesBehind s at cells slot names r after
  pub listed : (names : List (List ℕ)) → Lists s first x names → (p : Part) → r ≡ Ok p → Lists s first y (names ++ (name_at s at ∷ []))
  pub before : (c : ℕ) → get_or y c 0 ≤ at

-- ---- traits in a row

-- the traits of a marker, the first of which is due at a place, are read and entered
abbrev pub MakesTraits : List ℕ → ℕ → List ℕ → Slot → Result Part Refused → List ℕ → Type 0
MakesTraits s at cells slot r after =
    Makes traits_size length (trait_entries slot.parent slot.next at) s cells slot.next (traits_of (left_of slot) (drop at s)) r after

-- an index before a place becomes one before the end of what is read
abbrev pub NamesOnward : List ℕ → Result Part Refused → List ℕ → Type 0
NamesOnward s r x = (p : Part) → r ≡ Ok p → NamesBefore s (p.end + 1) x
