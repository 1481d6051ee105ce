-- A text in hex from a place on: its next pair of digits, or none.
-- Over plain lists. Assumes nothing.
use Prim.Native.Nat.{ℕ, ◌+◌, ◌-◌, ◌*◌, ◌≤◌, ◌<◌}
use mathlib.Core.Path.{◌≡◌, refl, ap, ◌∙◌}
use mathlib.Core.Bool.{true, false, and-false}
use mathlib.Core.List.{List, [], ◌∷◌, ◌++◌, append_assoc, append-nil}
use Rattle.std.specs.Prelude.{Option, None, Some}
use native.Mathlib.Numerals.{add-one}
use native.Mathlib.Omega.{arith}
use lib.ListN.{length, get_or, set, take, drop, drop_of_length-le}
use lib.Seq.{take-suc-set}
use Rattle.paper.specs.Bytes.{is_hex}
use Rattle.paper.specs.Values.{hex_digit}
use Rattle.text.proofs.Places.{here}
use Rattle.trials.specs.Hex.{onto, spelt}

onto_onto : (l m : List ℕ) (rest : Option (List ℕ)) → onto l (onto m rest) ≡ onto (l ++ m) rest
onto_onto l m None = refl
onto_onto l m (Some rest) = rw append_assoc

onto_nothing : (rest : Option (List ℕ)) → rest ≡ onto [] rest
onto_nothing None = refl
onto_nothing (Some rest) = refl

module _ (t : List ℕ) (i : ℕ) where
  pub half : i < length t → length t - i < 2 → spelt (drop i t) ≡ None
  unfolding spelt
  half h f = let e : length t ≤ i + 1 = omega arith in rw (here t i h, drop_of_length-le t e)

  pub over : length t ≤ i → spelt (drop i t) ≡ Some []
  unfolding spelt
  over h = rw (drop_of_length-le t h)

  module _ (h : i + 1 < length t) where
    pair : drop i t ≡ get_or t i 0 ∷ get_or t (i + 1) 0 ∷ drop (i + 2) t
    pair = let e : i + 1 + 1 ≡ i + 2 = omega arith in rw (here t i (omega arith), here t (i + 1) h, e)

    pub first_wrong : is_hex (get_or t i 0) ≡ false → spelt (drop i t) ≡ None
    unfolding spelt
    first_wrong e = rw (pair, e)

    pub second_wrong : is_hex (get_or t (i + 1) 0) ≡ false → spelt (drop i t) ≡ None
    unfolding spelt
    second_wrong e = rw (pair, e, and-false)

    pub one_pair : is_hex (get_or t i 0) ≡ true → is_hex (get_or t (i + 1) 0) ≡ true
        → spelt (drop i t) ≡ onto ((hex_digit (get_or t i 0) * 16 + hex_digit (get_or t (i + 1) 0)) ∷ []) (spelt (drop (i + 2) t))
    unfolding spelt
    one_pair e f = rw (pair, e, f)

-- ---- the loop: a text from a place on, with the bytes that stand before it spelt in the room

pub record Spelling (t : List ℕ) (i : ℕ) (room : List ℕ) (n : ℕ) : Type 0 where
  pub agrees : spelt t ≡ onto (take n room) (spelt (drop i t))

pub begins : (t room : List ℕ) → Spelling t 0 room 0
begins t room = record { agrees = onto_nothing (spelt t) }

module _ (t : List ℕ) (i : ℕ) (room : List ℕ) (n : ℕ) (so : Spelling t i room n) where
  pub stops : spelt (drop i t) ≡ None → spelt t ≡ None
  stops e = so.agrees ∙ rw e

  pub ends : length t ≤ i → spelt t ≡ Some (take n room)
  ends h = so.agrees ∙ rw (over t i h) (ap Some (append-nil (take n room)))

  -- one pair more, whose digits have these values
  pub goes_on : (high low : ℕ) → i + 1 < length t → n < length room
      → is_hex (get_or t i 0) ≡ true → is_hex (get_or t (i + 1) 0) ≡ true → high ≡ hex_digit (get_or t i 0) → low ≡ hex_digit (get_or t (i + 1) 0)
      → Spelling t (i + 2) (set room n (high * 16 + low)) (n + 1)
  goes_on high low h f a b e g =
      record {
        agrees =
            so.agrees
            ∙ ap (onto (take n room)) (one_pair t i h a b)
            ∙ onto_onto (take n room) ((hex_digit (get_or t i 0) * 16 + hex_digit (get_or t (i + 1) 0)) ∷ []) (spelt (drop (i + 2) t))
            ∙ rw (e, g, add-one n, take-suc-set);
      }
