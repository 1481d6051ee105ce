-- A digit has a value, and keeps the number in range, since one over a tenth of the range is refused before.
use Rattle.std.proofs.Common.{ℕ, ◌≡◌, ◌≤◌}
use mathlib.Core.Path.{sym, ◌∙◌}
use mathlib.Core.Bool.{true}
use native.Mathlib.Omega.{arith}
use Rattle.paper.specs.Bytes.{is_digit}
use Rattle.paper.proofs.Tests.{in_range}
use Rattle.trials.proofs.words.number.Goals as goal

-- a digit lies in its range
numeral : (b : ℕ) → is_digit b ≡ true → (0x30 ≤ b) × (b ≤ 0x39)
unfolding is_digit
numeral b e = in_range 0x30 0x39 b e

pub overflow_sub-n : goal.overflow_sub-n
overflow_sub-n c = (numeral _ (sym c.is_digit.ensures ∙ c.if-not-is_digit.false)).0

pub overflow_add-n : goal.overflow_add-n
overflow_add-n c = omega (arith, numeral _ (sym c.is_digit.ensures ∙ c.if-not-is_digit.false))
