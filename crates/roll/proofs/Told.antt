-- What an input tells of lies in the room.
-- Over plain lists. Assumes nothing.
use Prim.Native.Nat.{ℕ, ◌≤◌}
use mathlib.Core.Path.{◌≡◌}
use mathlib.Core.List.{List}
use lib.ListN.{length}
use Rattle.std.specs.Prelude.{Result, Ok}
use Rattle.std.specs.declared.io.Error.{Error}
use Rattle.roll.specs.Input.{Fits}

pub bytes_fit : (r : Result ℕ Error) (room : List ℕ) (n : ℕ) → Fits r room → r ≡ Ok n → n ≤ length room
bytes_fit r room n a e = rw e at a
