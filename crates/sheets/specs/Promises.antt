-- What the public functions of this crate promise: their contracts cite it, and so do the theorems that there is one answer only.
-- Document 01, "Entries", "Order" and "One answer only".
use Rattle.std.specs.Prelude.{ℕ, ◌≡◌, List}
use Rattle.paper.specs.Answer.{Answer, told}
use Rattle.paper.specs.Reading.{reading}
use Rattle.paper.specs.View.{viewed, view_answer}

-- `read` answers r for a table, a sheet and so many lent cells, which are these at exit
abbrev pub ReadsSheet : List ℕ → List ℕ → ℕ → Answer → List ℕ → Type 0
ReadsSheet table sheet lent r cells = record { answer = told r; cells = cells } ≡ reading table sheet lent

-- `view` hands this part back for an entry
abbrev pub Views : List ℕ → List ℕ → ℕ → List ℕ → Type 0
Views sheet cells entry part = part ≡ viewed sheet cells entry

-- `view_answer` answers r for an entry
abbrev pub ViewAnswers : List ℕ → List ℕ → ℕ → Answer → Type 0
ViewAnswers sheet cells entry r = told r ≡ view_answer sheet cells entry
