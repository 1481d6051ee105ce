-- Slots that are lent on: what fits still does. Assumes nothing.
use Prim.Native.Nat.{ℕ, ◌+◌, ◌≤◌}
use mathlib.Core.Path.{◌≡◌, refl, sym, ◌∙◌}
use mathlib.Core.Bool.{Bool, false}
use mathlib.Core.List.{List}
use native.Mathlib.Omega.{arith}
use lib.ListN.{length}
use lib.Dec.{leb}
use borrow.Author.Tests.{leb-false}
use Rattle.entries.specs.Laid.{slot_after, slot_under, Fits}
use Rattle.entries.specs.declared.Slot.{Slot}

-- a slot of the same room that is not past it
pub fits_on : {lent cells : List ℕ} {slot next : Slot} → Fits lent slot → length cells ≡ length lent → next.room ≡ slot.room → next.next ≤ slot.room → Fits cells next
fits_on h e r n = record { held = omega (arith, h.held); few = omega (arith, h.few); inside = omega arith }

-- the one so many entries on
pub fits_after : {lent cells : List ℕ} {slot : Slot} (made : ℕ) {next : Slot} → Fits lent slot → length cells ≡ length lent → slot.next + made ≤ slot.room
    → next ≡ slot_after slot made → Fits cells next
fits_after made h e n lends = rw lends (fits_on h e refl n)

-- the one behind an entry that is left
pub fits_under : {cells : List ℕ} {slot : Slot} {o : Bool} {under : Slot} → Fits cells slot → o ≡ leb slot.room slot.next → o ≡ false → under ≡ slot_under slot
    → Fits cells under
fits_under {cells} {slot} h asked f lends = rw lends (fits_on h refl refl (omega (arith, leb-false slot.room slot.next (sym asked ∙ f))))
