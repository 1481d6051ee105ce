-- What was read into a room.
-- Of the program's own form.
use Rattle.std.specs.Prelude.{ℕ, ◌≤◌, List, length, Result, IfOk}
use Rattle.std.specs.declared.io.Error.{Error}

-- the bytes that an input tells of stand in the room
abbrev pub Fits : Result ℕ Error → List ℕ → Type 0
Fits r room = IfOk r (λ n. n ≤ length room)
