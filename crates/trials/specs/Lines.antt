-- Lines of the input: how long they may be, where one that was read stands, and how many cells and how much room one may ask for.
-- Of the trials' own form.
use Rattle.std.specs.Prelude.{ℕ, ◌≤◌, List, length}
use Rattle.trials.specs.declared.Line.{Line}
use Rattle.trials.specs.declared.Line.TheVariants.{Bytes, End, TooLong}

-- a line is at most so long
abbrev pub line_limit : ℕ
line_limit = 65536

-- the line that an answer tells of stands in the room
abbrev pub Fits : Line → List ℕ → Type 0
Fits (Bytes n) room = n ≤ length room
Fits End room = Unit {0}
Fits TooLong room = Unit {0}

-- a line with a letter and a space in front
abbrev pub Request : List ℕ → Type 0
Request line = (2 ≤ length line) × (length line ≤ line_limit)

-- so many cells can be lent
abbrev pub cell_limit : ℕ
cell_limit = 16384

-- so much room can be lent for a form
abbrev pub room_limit : ℕ
room_limit = 32768
