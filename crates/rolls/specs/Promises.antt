-- What the public functions of this crate promise: their contracts cite it, and so do the theorems that there is one answer only.
-- Document 01, "Rolls", "Order" and "One answer only".
use Rattle.std.specs.Prelude.{ℕ, ◌≡◌, List}
use Rattle.paper.specs.Answer.{Answer, told}
use Rattle.paper.specs.declared.Told.{Told}
use Rattle.paper.specs.Roll.{roll_reading, adding}

-- `read` answers r for a table, a roll and so many lent cells for records and for entries, which are these at exit
abbrev pub ReadsRoll : List ℕ → List ℕ → ℕ → ℕ → Answer → List ℕ → List ℕ → Type 0
ReadsRoll table roll records lent r records_after cells_after =
    record { answer = told r; records = records_after; cells = cells_after } ≡ roll_reading table roll records lent

-- `add` answers r for a table, a sheet, a roll, its first n bytes and so many lent cells; roll and cells are these at exit
abbrev pub AddsSheet : List ℕ → List ℕ → List ℕ → ℕ → ℕ → Answer → List ℕ → List ℕ → Type 0
AddsSheet table sheet roll n lent r after cells = record { answer = told r; out = after; cells = cells } ≡ adding table sheet roll n lent

-- the same under a valid table, whatever is left in the cells
abbrev pub AddsUnder : List ℕ → List ℕ → List ℕ → ℕ → ℕ → Told → List ℕ → Type 0
AddsUnder table sheet roll n lent answer after = (answer ≡ (adding table sheet roll n lent).answer) × (after ≡ (adding table sheet roll n lent).out)
