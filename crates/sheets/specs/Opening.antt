-- An opening marker: what reading one at a place answers and writes, where its Concept's entry is the slot's next.
-- Document 01, "The grammar", Markers, and "Order": a Concept's name is judged by 4, 10, 5, 11.
use Rattle.std.specs.Prelude.{ℕ, suc, ◌+◌, ◌-◌, ◌≡◌, true, false, Result, Ok, Err, List, length, drop}
use Rattle.paper.specs.declared.Refused.{Refused}
use Rattle.paper.specs.declared.Mode.TheVariants.{Children}
use Rattle.paper.specs.Forms.{number_of_body}
use Rattle.paper.specs.Found.{Found, found, and_then}
use Rattle.paper.specs.Modes.{Modes}
use Rattle.paper.specs.Tree.{Ending, block, self}
use Rattle.paper.specs.Grammar.{in_mode}
use Rattle.paper.specs.Entries.{Entry, traits_size, trait_entries}
use Rattle.paper.specs.Reading.{makes, Opened as Marker, opened, named, opening, bounds}
use Rattle.modes.specs.Table.{modes_of}
use Rattle.entries.specs.declared.Slot.{Slot}
use Rattle.lines.specs.Parts.{Makes, part}
use Rattle.lines.specs.declared.part.Part.{Part}
use Rattle.sheets.specs.declared.opening.Opened.{Opened}

-- traits and ending behind a name w that nesting and table admit, an entry made for its Concept first; `at` is the list from the name on
abbrev pub held_of : ℕ → List ℕ → List ℕ → List ℕ → Found Marker
held_of room at w left = and_then (makes room at w left) (opened bounds (room - 1))

-- the form of a Concept of this name with a body; and of any, by its marker's ending
abbrev pub block_form : Modes → List ℕ → ℕ
block_form m w = elim (in_mode Children m w) [ true ↦ 2 | false ↦ 3 ]

abbrev pub form_in : ℕ → Ending → ℕ
form_in form self = 1
form_in form block = form

-- a marker's answer as that of a part, whose entries are those of its traits
abbrev pub part_of : Result Opened Refused → Result Part Refused
part_of (Ok o) = Ok (record { end = o.end; made = o.made; own = o.own })
part_of (Err r) = Err r

abbrev pub made_by : Marker → ℕ
made_by o = traits_size o.marker.traits

abbrev pub traits_in : Marker → ℕ
traits_in o = length o.marker.traits

abbrev pub entered_by : ℕ → ℕ → Marker → List Entry
entered_by own at o = trait_entries own (own + 1) (at + length o.marker.name) o.marker.traits

-- what is answered and written where the marker is found as x, and its name starts at `start`; `forms` has the form of a name's blocks
pub record Opens (deeper : ℕ) (forms : List ℕ → ℕ) (s : List ℕ) (start : ℕ) (cells : List ℕ) (slot : Slot) (x : Found Marker) (r : Result Opened Refused)
    (after : List ℕ) : Type 0 where
  pub makes : Makes made_by traits_in (entered_by slot.next start) s cells (slot.next + 1) x (part_of r) after
  pub says : (a : Opened) → r ≡ Ok a → (o : Marker) (left : List ℕ) → x ≡ found o left
      → (number_of_body a.form ≡ form_in (forms o.marker.name) o.ends) × (a.to ≡ start + length o.marker.name) × (suc a.inside.left ≡ deeper)

-- the marker whose "<" is due at `at`
abbrev pub ReadsOpening : List ℕ → List ℕ → ℕ → ℕ → List ℕ → Slot → Result Opened Refused → List ℕ → Type 0
ReadsOpening table s at deeper cells slot r after =
    Opens deeper (block_form (modes_of table)) s (at + 1) cells slot (opening (modes_of table) bounds deeper (slot.room - slot.next) (drop at s)) r after

-- the same behind its name, which ends at `to`
abbrev pub ReadsNamed : List ℕ → List ℕ → ℕ → ℕ → ℕ → List ℕ → Slot → Result Opened Refused → List ℕ → Type 0
ReadsNamed table s at to deeper cells slot r after =
    Opens deeper (block_form (modes_of table)) s (at + 1) cells slot
    (named (modes_of table) bounds deeper (slot.room - slot.next) (drop at s) (part s (at + 1) to) (drop to s)) r after

-- the same behind a name from `start` to `to` that is admitted, where a block has this form
abbrev pub ReadsMarker : List ℕ → ℕ → ℕ → ℕ → ℕ → List ℕ → Slot → Result Opened Refused → List ℕ → Type 0
ReadsMarker s start to form deeper cells slot r after =
    Opens deeper (λ w. form) s start cells slot (held_of (slot.room - slot.next) (drop start s) (part s start to) (drop to s)) r after
