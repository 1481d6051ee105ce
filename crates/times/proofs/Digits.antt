-- Digits and the numbers that they spell: a law for each way out of a function that reads them. Over plain lists.
-- 001 §18; document 02, Two: "One rule for two-digit fields serves all of them". Assumes nothing.
use Prim.Native.Nat.{ℕ, suc, ◌+◌, ◌-◌, ◌*◌, ◌≤◌, ◌<◌}
use mathlib.Core.Path.{◌≡◌, refl, sym, ◌∙◌}
use mathlib.Core.Bool.{Bool, true, false, not, ◌&&◌, and-false}
use mathlib.Core.List.{List, [], ◌∷◌}
use native.Mathlib.Omega.{arith}
use lib.ListN.{length, get_or, take, drop, drop_of_length-le}
use lib.Dec.{eqb}
use borrow.Author.Tests.{eq-eqb, ne_eqb, eqb-true, eqb-false}
use Rattle.text.proofs.Places.{here}
use Rattle.paper.specs.Bytes.{byte, within, is_digit, all, starts_in}
use Rattle.paper.specs.Times.{digits, number_from, number, two_digits}
use Rattle.paper.proofs.Tests.{split, inside, in_range}
use Rattle.paper.proofs.Lists.{all_head, both}
use Rattle.paper.proofs.TimeKinds.{digits_of}

-- ---- digits only

-- a loop over bytes that have to be of a class, one at least: a turn of it, and its two ways out
all_some : (class : ℕ → Bool) (w : List ℕ) → all class w ≡ true → not (eqb (length w) 0) ≡ starts_in class w && all class w
unfolding starts_in
all_some class [] e = refl
all_some class (b ∷ l) e = rw (e, (all_head class b l e).0, ne_eqb (length (b ∷ l)) 0 (λ z. omega arith))

module _ (class : ℕ → Bool) (w : List ℕ) (i : ℕ) (so_far : all class (drop i w) ≡ all class w) where
  pub all_on : i < length w → class (get_or w i 0) ≡ true → all class (drop (i + 1) w) ≡ all class w
  unfolding all
  all_on h e = rw (here w i h, all, e) at so_far

  pub all_off : i < length w → class (get_or w i 0) ≡ false → false ≡ starts_in class w && all class w
  unfolding all
  all_off h e =
      let none : all class w ≡ false = sym (rw (here w i h, all, e) at so_far) in
      split (starts_in class w) (λ s. rw (s, none)) (λ s. rw s)

  pub all_out : length w ≤ i → not (eqb (length w) 0) ≡ starts_in class w && all class w
  unfolding all
  all_out h = all_some class w (sym (rw (drop_of_length-le w h) at so_far))

-- ---- two digits and their number

digit_range : (b : ℕ) → is_digit b ≡ true → (byte "0" ≤ b) × (b ≤ byte "9")
unfolding is_digit
digit_range b e = in_range (byte "0") (byte "9") b e

pub record Pair (w : List ℕ) : Type 0 where
  pub size : length w ≡ 2
  pub tens : (byte "0" ≤ get_or w 0 0) × (get_or w 0 0 ≤ byte "9")
  pub ones : (byte "0" ≤ get_or w 1 0) × (get_or w 1 0 ≤ byte "9")
  pub spells : 10 * (get_or w 0 0 - byte "0") + (get_or w 1 0 - byte "0") ≡ number w

pub pair : (w : List ℕ) → digits 2 w ≡ true → Pair w
unfolding number_from
pair [] e = absurd (omega (arith, (digits_of 2 [] e).0))
pair (a ∷ []) e = absurd (omega (arith, (digits_of 2 (a ∷ []) e).0))
pair (a ∷ b ∷ []) e =
    let h = all_head is_digit a (b ∷ []) (digits_of 2 (a ∷ b ∷ []) e).1 in
    let k = all_head is_digit b [] h.1 in
    record { size = refl; tens = digit_range a h.0; ones = digit_range b k.0; spells = omega arith }
pair (a ∷ b ∷ c ∷ l) e = absurd (omega (arith, (digits_of 2 (a ∷ b ∷ c ∷ l) e).0))

pub pair_is : (w : List ℕ) → length w ≡ 2 → byte "0" ≤ get_or w 0 0 → get_or w 0 0 ≤ byte "9" → byte "0" ≤ get_or w 1 0 → get_or w 1 0 ≤ byte "9"
    → (digits 2 w ≡ true) × (10 * (get_or w 0 0 - byte "0") + (get_or w 1 0 - byte "0") ≡ number w)
unfolding digits all number_from is_digit
pair_is [] h k l m n = absurd (omega arith)
pair_is (a ∷ []) h k l m n = absurd (omega (arith, h))
pair_is (a ∷ b ∷ []) h k l m n = (rw (inside 0x30 0x39 a k l, inside 0x30 0x39 b m n), omega arith)
pair_is (a ∷ b ∷ c ∷ w) h k l m n = absurd (omega (arith, h))

pub pair_none : (w : List ℕ) → (length w ≡ 2 → byte "0" ≤ get_or w 0 0 → get_or w 0 0 ≤ byte "9" → byte "0" ≤ get_or w 1 0 → get_or w 1 0 ≤ byte "9" → ⊥) → digits 2 w ≡ false
pair_none w n = split (digits 2 w) (λ e. let p = pair w e in absurd (n p.size p.tens.0 p.tens.1 p.ones.0 p.ones.1)) (λ e. e)

pub pair_there : (low high : ℕ) (w : List ℕ) → two_digits low high w ≡ true → digits 2 w ≡ true
unfolding two_digits
pair_there low high w e = (both (digits 2 w) (within low high (number w)) e).0

-- ---- four digits and their number, by two times two

shuffle : (a b x y : Bool) → (a && (b && true)) && (x && y) ≡ x && (a && (b && y))
shuffle true true x y = refl
shuffle true false x y = sym (and-false x)
shuffle false b x y = sym (and-false x)

two_less : (n : ℕ) → eqb (suc (suc n)) 4 ≡ eqb n 2
two_less n =
    split (eqb n 2) (λ e. eq-eqb (suc (suc n)) 4 (omega (arith, eqb-true n 2 e)) ∙ sym e)
    (λ e. ne_eqb (suc (suc n)) 4 (λ z. eqb-false n 2 e (omega (arith, z))) ∙ sym e)

halves : (l : List ℕ) → 2 ≤ length l → digits 2 (take 2 l) && digits 2 (drop 2 l) ≡ digits 4 l
unfolding digits all
halves [] h = absurd (omega arith)
halves (a ∷ []) h = absurd (omega (arith, h))
halves (a ∷ b ∷ l) h = rw (two_less (length l)) (shuffle (is_digit a) (is_digit b) (eqb (length l) 2) (all is_digit l))

spells : (l : List ℕ) → length l ≡ 4 → 100 * number (take 2 l) + number (drop 2 l) ≡ number l
unfolding number_from
spells [] h = absurd (omega arith)
spells (a ∷ []) h = absurd (omega (arith, h))
spells (a ∷ b ∷ []) h = absurd (omega (arith, h))
spells (a ∷ b ∷ c ∷ []) h = absurd (omega (arith, h))
spells (a ∷ b ∷ c ∷ d ∷ []) h = omega arith
spells (a ∷ b ∷ c ∷ d ∷ x ∷ l) h = absurd (omega (arith, h))

module _ (w first last : List ℕ) (front : first ≡ take 2 w) (back : last ≡ drop 2 w) where
  pub four : 2 ≤ length w → digits 2 first && digits 2 last ≡ digits 4 w
  four h = rw (front, back) (halves w h)

  pub four_spell : length w ≡ 4 → 100 * number first + number last ≡ number w
  four_spell h = rw (front, back) (spells w h)
