-- Hex digits: the number that several spell, and whether it is a scalar value. Assumes nothing.
-- Document 01, "The grammar", Values: `\uXXXX` and `\u{..}`.
use Prim.Native.Nat.{ℕ, zero, suc, ◌+◌, ◌*◌, ◌^◌, ◌≤◌, ◌<◌}
use mathlib.Core.Path.{◌≡◌, sym}
use mathlib.Core.Bool.{Bool, true, false}
use mathlib.Core.List.{List, [], ◌∷◌}
use native.Mathlib.Nat.{pow-suc, pow-le-pow_right}
use native.Mathlib.Numerals.{add-one}
use native.Mathlib.Omega.{arith}
use lib.ListN.{length, get_or, drop, drop_of_length-le}
use borrow.Author.Tests.{lt-leb}
use Rattle.paper.specs.Bytes.{is_hex, all, is_scalar}
use Rattle.paper.specs.Values.{hex_digit, hex_value, spells_scalar}
use Rattle.paper.proofs.Tests.{below, above}
use Rattle.paper.proofs.Lists.{all_head}
use Rattle.text.proofs.Places.{here}

-- ---- the number that several spell

-- each byte of a list is of the class that all are of
pub all_at : (class : ℕ → Bool) (s : List ℕ) (i : ℕ) → all class s ≡ true → i < length s → class (get_or s i 0) ≡ true
all_at class [] i e h = absurd (omega arith)
all_at class (b ∷ l) zero e h = (all_head class b l e).0
all_at class (b ∷ l) (suc i) e h = all_at class l i (all_head class b l e).1 (omega arith)

module _ (s : List ℕ) (i so : ℕ) where
  pub value_on : i < length s → hex_value (so * 16 + hex_digit (get_or s i 0)) (drop (i + 1) s) ≡ hex_value so (drop i s)
  unfolding hex_value
  value_on h = rw (here s i h)

  pub value_out : length s ≤ i → so ≡ hex_value so (drop i s)
  unfolding hex_value
  value_out h = rw (drop_of_length-le s h)

-- six digits spell less than 16 ^ 6
pub value_grows : (v d i : ℕ) → v < 16 ^ i → d < 16 → i < 6 → (v * 16 + d < 16 ^ (i + 1)) × (v * 16 + d < 0x1000000)
value_grows v d i h k l =
    let p : 16 ^ (i + 1) ≡ 16 ^ i * 16 = rw add-one (pow-suc 16 i) in
    let q : 16 ^ i ≤ 16 ^ 5 = pow-le-pow_right {n = 16} (omega arith) {i = i} {j = 5} (omega arith) in
    (omega arith, omega arith)

-- ---- a scalar value

pub scalar_gap : (v : ℕ) → 0xD7FF < v → v < 0xE000 → is_scalar v ≡ false
unfolding is_scalar
scalar_gap v l h = rw (lt-leb v 0xD7FF l, below 0xE000 0x10FFFF v h)

pub scalar_past : (v : ℕ) → 0x10FFFF < v → is_scalar v ≡ false
unfolding is_scalar
scalar_past v h = rw (lt-leb v 0xD7FF (omega arith), above 0xE000 0x10FFFF v h)

pub spells : (digits : List ℕ) (v : ℕ) (o : Bool) → all is_hex digits ≡ true → v ≡ hex_value 0 digits → is_scalar v ≡ o → o ≡ spells_scalar digits
unfolding spells_scalar
spells digits v o a e f = rw (a, ← e) (sym f)
