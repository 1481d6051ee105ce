-- The offsets of zones: a law for each way out of the function that reads one. Over plain lists; 001 §18, TimeZoneOffset. Assumes nothing.
use Prim.Native.Nat.{ℕ, ◌<◌}
use mathlib.Core.Path.{◌≡◌, sym}
use mathlib.Core.Bool.{or-false}
use mathlib.Core.List.{List, [], ◌∷◌}
use mathlib.Core.Logic.{inl, inr}
use native.Mathlib.Omega.{arith}
use lib.ListN.{length, get_or, drop}
use types.Run.{OneOf}
use borrow.Author.Tests.{ne_eqb}
use Rattle.paper.specs.Bytes.{byte, bytes, same, elem, starts_in}
use Rattle.paper.specs.Times.{is_offset}
use Rattle.times.specs.Parts.{is_hour_minute}

pub offset_signed : (w : List ℕ) → 0 < length w → OneOf (bytes "+-") (get_or w 0 0) → is_hour_minute (drop 1 w) ≡ is_offset w
unfolding is_offset starts_in elem same
offset_signed [] h s = absurd (omega arith)
offset_signed (b ∷ l) h (inl e) = rw e
offset_signed (b ∷ l) h (inr e) = rw e

-- with neither sign in front
pub offset_unsigned : (w : List ℕ) → (0 < length w → OneOf (bytes "+-") (get_or w 0 0) → ⊥) → same w (bytes "Z") ≡ is_offset w
unfolding is_offset starts_in elem
offset_unsigned [] n = sym (or-false _)
offset_unsigned (b ∷ l) n = rw (ne_eqb b (byte "+") (λ e. n (omega arith) (inl e)), ne_eqb b (byte "-") (λ e. n (omega arith) (inr e))) (sym (or-false _))
