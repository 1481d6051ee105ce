-- A sheet that is read on with a slot that is lent on: what stands still does. Assumes nothing.
use Prim.Native.Nat.{ℕ, ◌≤◌}
use mathlib.Core.List.{List}
use lib.ListN.{length}
use Rattle.entries.specs.Laid.{Fits}
use Rattle.entries.specs.declared.Slot.{Slot}
use Rattle.sheets.specs.Concepts.{Ready}

-- another place of the sheet, and a slot that fits
pub stands_on : {s lent cells : List ℕ} {at end : ℕ} {slot next : Slot} → Ready s at lent slot → end ≤ length s → Fits cells next → Ready s end cells next
stands_on h inside fits = record { in_sheet = record { within = h.in_sheet.within; inside = inside }; fits = fits }
