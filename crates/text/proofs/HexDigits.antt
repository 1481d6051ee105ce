-- The number of a hex digit, by its three ranges. Over plain numbers. Assumes nothing.
-- Document 01, "The grammar", Values.
use Prim.Native.Nat.{ℕ, ◌+◌, ◌-◌, ◌≤◌, ◌<◌}
use mathlib.Core.Path.{◌≡◌, sym, ◌∙◌}
use mathlib.Core.Bool.{true, false, ◌||◌}
use native.Mathlib.Omega.{arith}
use Rattle.paper.specs.Bytes.{within, is_digit, is_upper, is_hex}
use Rattle.paper.specs.Values.{hex_digit}
use Rattle.paper.proofs.Tests.{true_false, either, inside, in_range}

module _ (b : ℕ) where
  pub hex_numeral : true ≡ is_digit b → (0x30 ≤ b) × ((b - 0x30 ≡ hex_digit b) × (b - 0x30 < 16))
  unfolding hex_digit is_digit
  hex_numeral d = let r = in_range 0x30 0x39 b (sym d) in (r.0, (rw (sym d), omega arith))

  module _ (hex : is_hex b ≡ true) (d : false ≡ is_digit b) where
    -- a letter then, of upper or lower case
    hex_letter : {X : Type 0} → (0x41 ≤ b → b ≤ 0x46 → X) → (0x61 ≤ b → b ≤ 0x66 → X) → X
    unfolding is_hex is_digit
    hex_letter upper lower =
        either (within 0x30 0x39 b || within 0x41 0x46 b) (within 0x61 0x66 b) hex
        (λ e. either (within 0x30 0x39 b) (within 0x41 0x46 b) e (λ f. true_false (sym f ∙ sym d)) (λ f. let r = in_range 0x41 0x46 b f in upper r.0 r.1))
        (λ e. let r = in_range 0x61 0x66 b e in lower r.0 r.1)

    pub hex_upper : true ≡ is_upper b → (0x41 ≤ b) × ((b - 0x41 + 10 ≡ hex_digit b) × (b - 0x41 + 10 < 16))
    unfolding hex_digit is_upper
    hex_upper u =
        let r = in_range 0x41 0x5A b (sym u) in
        (r.0, (rw (sym d, sym u), hex_letter (λ l h. omega arith) (λ l h. absurd (omega (arith, r.1)))))

    pub hex_lower : false ≡ is_upper b → (0x61 ≤ b) × ((b - 0x61 + 10 ≡ hex_digit b) × (b - 0x61 + 10 < 16))
    unfolding hex_digit is_upper
    hex_lower u =
        let other = λ (l : 0x41 ≤ b) (h : b ≤ 0x46). true_false (sym (inside 0x41 0x5A b l (omega arith)) ∙ sym u) in
        hex_letter (λ l h. other l h) (λ l h. (l, (rw (sym d, sym u), omega arith)))
