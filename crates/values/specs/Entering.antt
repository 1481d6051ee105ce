-- What entering the items of a value answers and writes, where the value was read.
-- Document 01, "Entries": items in depth-first order; refusal 11; document 02, Five.
use Rattle.std.specs.Prelude.{ℕ, suc, ◌+◌, ◌-◌, ◌≤◌, ◌<◌, ◌≡◌, Result, Ok, Err, List, ◌∷◌, ◌++◌, map, length, get_or, drop}
use Rattle.paper.specs.Found.{Found, found, place_in}
use Rattle.paper.specs.Limits.{sheet_limit, bracket_limit}
use Rattle.paper.specs.Answer.{refused_at}
use Rattle.paper.specs.Forms.{number_of_form}
use Rattle.paper.specs.declared.Refusal.{Refusal}
use Rattle.paper.specs.declared.Refused.{Refused}
use Rattle.paper.specs.declared.brackets.Bracket.{Bracket}
use Rattle.paper.specs.Values.{Label, Value, bracket, bracket_form, value_form, More}
use Rattle.paper.specs.ReadingValues.{value_of, item_and}
use Rattle.paper.specs.Entries.{Entry, label_width, value_width, items_of, more_items, item_size, more_size, item_entry, item_entries, more_entries}
use Rattle.entries.specs.Laid.{lay, Fits}
use Rattle.entries.specs.declared.Slot.{Slot}
use Rattle.leaves.specs.declared.judged.Judged.{Judged}
use Rattle.values.specs.declared.entering.Entered.{Entered}

-- a value that has no items
abbrev pub without_items : Judged → Entered
without_items v = record { form = v.form; end = v.end; made = 0; own = 0 }

-- a value whose items are entered, by the number of its form
pub record Items : Type 0 where
  pub form : ℕ
  pub end : ℕ
  pub made : ℕ
  pub own : ℕ

abbrev pub items_in : Entered → Items
items_in e = record { form = number_of_form e.form; end = e.end; made = e.made; own = e.own }

-- an answer is such a value
pub record Holds (r : Result Entered Refused) (i : Items) : Type 0 where
  pub it : Entered
  pub is : r ≡ Ok it
  pub holds : items_in it ≡ i

-- an item that has no entry left, at its place
abbrev pub no_entry_left : ℕ → Refused
no_entry_left place = refused_at Refusal.NoEntryLeft place

-- a place in a sheet of a size that is read, where so many brackets may still be opened, and entries go into a slot of the cells
pub record Ready (s : List ℕ) (at brackets : ℕ) (cells : List ℕ) (slot : Slot) : Type 0 where
  pub place : at ≤ length s
  pub short : length s ≤ sheet_limit
  pub few : brackets ≤ bracket_limit
  pub fits : Fits cells slot

-- how many entries are left
abbrev pub left_of : Slot → ℕ
left_of slot = slot.room - slot.next

-- the place of the first of these entries that has no room
abbrev pub first_over : ℕ → List Entry → ℕ
first_over room es = get_or (map (λ e. e.name_start) es) room 0

-- an item whose label stands at `at` and those behind it, numbered from `next` on
abbrev pub entries_from : ℕ → ℕ → ℕ → Label → Value → More → List Entry
entries_from parent next at a v more =
    item_entry parent at a v
    ∷ (item_entries next (next + 1) (at + label_width a) v ++ more_entries parent (next + 1 + item_size v) (at + label_width a + value_width v) more)

abbrev pub size_from : Value → More → ℕ
size_from v more = suc (item_size v) + more_size more

-- bounds that hold of every answer
pub record Ahead (s : List ℕ) (at brackets room : ℕ) (r : Result Entered Refused) : Type 0 where
  pub far : (e : Entered) → r ≡ Ok e → (at < e.end) × (e.end ≤ length s + 1 + brackets) × (e.made ≤ room) × (e.own ≤ e.made)

-- the items of a value that was read as x
pub record Enters (s : List ℕ) (at : ℕ) (cells : List ℕ) (slot : Slot) (x : Found Value) (r : Result Entered Refused) (after : List ℕ) : Type 0 where
  pub fits : (v : Value) (left : List ℕ) → x ≡ found v left → item_size v ≤ left_of slot
      → Holds r (record { form = value_form v; end = place_in s left; made = item_size v; own = items_of v })
      × (after ≡ lay cells slot.next (item_entries slot.parent slot.next at v))
  pub full : (v : Value) (left : List ℕ) → x ≡ found v left → left_of slot < item_size v
      → r ≡ Err (no_entry_left (first_over (left_of slot) (item_entries slot.parent slot.next at v)))

-- a value that stands at a place, where so many brackets may still be opened and these bytes end a word
abbrev pub EntersValue : ℕ → List ℕ → List ℕ → ℕ → List ℕ → Slot → Result Entered Refused → List ℕ → Type 0
EntersValue brackets also s at cells slot r after = Ahead s at brackets (left_of slot) r × Enters s at cells slot (value_of brackets also (drop at s)) r after

-- the items of a bracket from the one that stands at `at` on, where `made` entries and `own` items stand before it. The bracket was read as x
pub record EntersFrom (k : Bracket) (s : List ℕ) (at : ℕ) (cells : List ℕ) (slot : Slot) (made own : ℕ) (x : Found Value) (r : Result Entered Refused) (after : List ℕ) : Type 0 where
  pub fits : (a : Label) (v : Value) (more : More) (left : List ℕ) → x ≡ found (bracket k a v more) left → made + size_from v more ≤ left_of slot
      → Holds r (record { form = bracket_form k; end = place_in s left; made = made + size_from v more; own = own + suc (more_items more) })
      × (after ≡ lay cells (slot.next + made) (entries_from slot.parent (slot.next + made) at a v more))
  pub full : (a : Label) (v : Value) (more : More) (left : List ℕ) → x ≡ found (bracket k a v more) left → left_of slot < made + size_from v more
      → r ≡ Err (no_entry_left (first_over (left_of slot - made) (entries_from slot.parent (slot.next + made) at a v more)))

-- the items of a bracket, the first of which stands at a place
abbrev pub EntersItems : Bracket → ℕ → List ℕ → ℕ → List ℕ → Slot → Result Entered Refused → List ℕ → Type 0
EntersItems k brackets s at cells slot r after =
    Ahead s at (brackets + 1) (left_of slot) r × EntersFrom k s at cells slot 0 0 (item_and k brackets (bracket k) (drop at s)) r after
