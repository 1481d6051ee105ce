-- What an answer tells of lies in the room that was lent.
-- Over plain lists. Assumes nothing.
use Prim.Native.Nat.{ℕ, ◌≤◌}
use mathlib.Core.Path.{◌≡◌}
use mathlib.Core.List.{List}
use lib.ListN.{length}
use Rattle.std.specs.Prelude.{Option, Some}
use Rattle.trials.specs.Hex.{Answers}
use Rattle.trials.specs.Lines.{Fits}
use Rattle.trials.specs.Words.{Held}
use Rattle.trials.specs.declared.Line.{Line}
use Rattle.trials.specs.declared.Line.TheVariants.{Bytes as line}

pub bytes_fit : (t : List ℕ) (r : Option ℕ) (room : List ℕ) (n : ℕ) → Answers t r room → r ≡ Some n → n ≤ length room
bytes_fit t r room n a e = (rw e at a).0

pub line_fits : (r : Line) (room : List ℕ) (n : ℕ) → Fits r room → r ≡ line n → n ≤ length room
line_fits r room n a e = rw e at a

pub cells_fit : (r : Option ℕ) (cells : List ℕ) (n : ℕ) → Held r cells → r ≡ Some n → n ≤ length cells
cells_fit r cells n a e = rw e at a
