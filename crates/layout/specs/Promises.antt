-- What the functions of this crate promise: their contracts cite it, and so do the theorems about them.
-- Document 01, "Canonical form", refusal 12, "Order" and "One answer only".
use Rattle.std.specs.Prelude.{ℕ, ◌≡◌, List, replicate}
use Rattle.paper.specs.Answer.{Answer, told}
use Rattle.paper.specs.declared.Told.{Told}
use Rattle.paper.specs.Tree.{Sheet}
use Rattle.paper.specs.Canonical.{canonical}
use Rattle.paper.specs.Writing.{write_form, writing}
use Rattle.printing.specs.Walking.{OfSheet}

-- `write` answers r for a table, a sheet, so many lent cells and an output, and at exit the output and the cells are these
abbrev pub WritesSheet : List ℕ → List ℕ → ℕ → List ℕ → Answer → List ℕ → List ℕ → Type 0
WritesSheet table sheet lent out r after cells = record { answer = told r; out = after; cells = cells } ≡ writing table sheet lent out

-- the same under a valid table, whatever it leaves in the cells
abbrev pub WritesUnder : List ℕ → List ℕ → ℕ → List ℕ → Told → List ℕ → Type 0
WritesUnder table sheet lent out answer after = (answer ≡ (writing table sheet lent out).answer) × (after ≡ (writing table sheet lent out).out)

-- the form of the tree that a sheet's bytes and its entries' cells give is written to lent room, or nothing is
abbrev pub FormWritten : List ℕ → List ℕ → List ℕ → Told → List ℕ → Type 0
FormWritten sheet cells out answer after =
    (t : Sheet) (lent : ℕ) → OfSheet sheet cells t → record { answer = answer; out = after; cells = replicate lent 0 }
    ≡ write_form lent out (canonical t)
