-- Listing a roll: what finding its sheets, reading them and both together answer and write where nothing is zeroed.
-- Document 01, "Rolls" and "Order".
use Rattle.std.specs.Prelude.{ℕ, suc, ◌+◌, ◌*◌, ◌≤◌, ◌≡◌, true, false, List, [], ◌∷◌, ◌++◌, length, take, drop, ltb}
use Rattle.paper.specs.Answer.{accepted, refused}
use Rattle.paper.specs.declared.Told.{Told}
use Rattle.paper.specs.Reading.{reading}
use Rattle.paper.specs.Roll.{record_cells, parts_of, together, all_records, roll_room, roll_faults}
use Rattle.lines.specs.Parts.{part}
use Rattle.rolls.specs.Boundaries.{sheets_from, sheets_in}
use Rattle.rolls.specs.Records.{lay_records, record_with, unread, start_at, end_at, unread_in, records_in}

-- the answer where so many sheets may be found, the first of which begins at a place: 15 at the first one over
abbrev pub counted_from : ℕ → List ℕ → ℕ → List (List ℕ) → Told
counted_from room r first sheets =
    elim (ltb room (length sheets)) [
      | true ↦ refused 15 (first + length (together (take room sheets)))
      | false ↦ accepted (length r) (length sheets)
    ]

-- the sheets from a place on are found: the answer, and the cells where it is an acceptance
pub record FindsSheets (r : List ℕ) (first : ℕ) (records : List ℕ) (answer : Told) (after : List ℕ) : Type 0 where
  pub says : answer ≡ counted_from (roll_room (length records)) r first (sheets_from r first)
  pub laid : answer.number ≡ 0 → after ≡ lay_records records 0 (unread first (sheets_from r first))

-- record number n lies in the cells, and its sheet in the roll
pub record Spans (r records : List ℕ) (n : ℕ) : Type 0 where
  pub held : suc n * record_cells ≤ length records
  pub forward : start_at records n ≤ end_at records n
  pub inside : end_at records n ≤ length r

-- its sheet is read by itself
abbrev pub ReadsRecord : List ℕ → List ℕ → ℕ → List ℕ → ℕ → List ℕ → Type 0
ReadsRecord table r lent records n after =
    after
    ≡ lay_records records n
    (record_with (start_at records n) (end_at records n) (reading table (part r (start_at records n) (end_at records n)) lent).answer ∷ [])

-- so many sheets are found, all that the roll has
pub record AllFound (r records : List ℕ) (count : ℕ) : Type 0 where
  pub many : count ≡ length (sheets_in (parts_of r))
  pub stand : records ≡ all_records (unread_in (parts_of r)) ++ drop (count * record_cells) records

-- a roll is listed: the answer, and where it is an acceptance how many sheets there are, for each of which there is room, and the cells
pub record Lists (table r : List ℕ) (lent : ℕ) (records : List ℕ) (answer : Told) (after : List ℕ) : Type 0 where
  pub says : answer ≡ roll_faults table (roll_room (length records)) r (parts_of r)
  pub counts : answer.number ≡ 0 → (answer.count ≡ length (sheets_in (parts_of r))) × (answer.count ≤ roll_room (length records))
  pub laid : answer.number ≡ 0 → after ≡ lay_records records 0 (records_in table lent (parts_of r))
