-- What the public function of this crate promises: its contract cites it, and so does the theorem that there is one answer only.
-- Document 01, "The mode table" and "One answer only".
use Rattle.std.specs.Prelude.{ℕ, ◌≡◌, List}
use Rattle.paper.specs.Answer.{Answer, told}
use Rattle.paper.specs.Modes.{read_table}

-- `read` answers r for a table
abbrev pub ReadsTable : List ℕ → Answer → Type 0
ReadsTable table r = told r ≡ read_table table
