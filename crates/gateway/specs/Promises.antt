-- What the functions for C promise: their contracts cite it, and so do the theorems that there is one answer only.
-- Document 01, "Rolls", the answers of "Order", and "One answer only".
use Rattle.std.specs.Prelude.{ℕ, ◌≡◌, List}
use Rattle.paper.specs.Modes.{read_table}
use Rattle.paper.specs.Reading.{reading}
use Rattle.paper.specs.Writing.{writing}
use Rattle.paper.specs.Roll.{roll_reading, adding}
use Rattle.gateway.specs.Answers.{three_of, view_of}

-- `cdx_table` writes this answer for a table
abbrev pub TellsTable : List ℕ → List ℕ → Type 0
TellsTable table answer = answer ≡ three_of (read_table table)

-- `cdx_sheet` leaves these cells, of which so many are lent, and writes this answer
abbrev pub TellsSheet : List ℕ → List ℕ → ℕ → List ℕ → List ℕ → Type 0
TellsSheet table sheet lent cells answer = (cells ≡ (reading table sheet lent).cells) × (answer ≡ three_of (reading table sheet lent).answer)

-- `cdx_view` writes this answer for an entry
abbrev pub TellsView : List ℕ → List ℕ → ℕ → List ℕ → Type 0
TellsView sheet cells entry answer = answer ≡ view_of sheet cells entry

-- `cdx_write` leaves these cells, of which so many are lent, makes this output of the one that came, and writes this answer
abbrev pub TellsForm : List ℕ → List ℕ → ℕ → List ℕ → List ℕ → List ℕ → List ℕ → Type 0
TellsForm table sheet lent out cells after answer =
    (cells ≡ (writing table sheet lent out).cells) × (after ≡ (writing table sheet lent out).out) × (answer ≡ three_of (writing table sheet lent out).answer)

-- `cdx_roll` leaves these records and these cells, of both of which so many are lent, and writes this answer
abbrev pub TellsRoll : List ℕ → List ℕ → ℕ → ℕ → List ℕ → List ℕ → List ℕ → Type 0
TellsRoll table roll records lent records_after cells answer =
    (records_after ≡ (roll_reading table roll records lent).records)
    × (cells ≡ (roll_reading table roll records lent).cells)
    × (answer ≡ three_of (roll_reading table roll records lent).answer)

-- `cdx_add` makes this roll of the one that came, behind its first n bytes, leaves these cells, of which so many are lent, and writes this answer
abbrev pub TellsAdding : List ℕ → List ℕ → List ℕ → ℕ → ℕ → List ℕ → List ℕ → List ℕ → Type 0
TellsAdding table sheet roll n lent after cells answer =
    (after ≡ (adding table sheet roll n lent).out)
    × (cells ≡ (adding table sheet roll n lent).cells)
    × (answer ≡ three_of (adding table sheet roll n lent).answer)
