-- The name that stands at a place, compared with another: by its bytes, and by the byte behind them.
-- Over plain lists. Assumes nothing.
use Prim.Native.Nat.{ℕ, ◌+◌, ◌<◌}
use mathlib.Core.Path.{◌≡◌, sym, ap, ◌∙◌}
use mathlib.Core.Bool.{true, false, not}
use mathlib.Core.List.{List, ◌∷◌, ◌++◌}
use native.Mathlib.Omega.{arith}
use lib.ListN.{length, take, drop, get_or, take-append-drop}
use lib.Seq.{length-take-le, get_or-take, get_or-drop, drop-drop}
use Rattle.paper.specs.Bytes.{same, all, is_name_byte, starts_in, length_in}
use Rattle.paper.proofs.Tests.{split, true_false}
use Rattle.paper.proofs.Lists.{same_is, same_of, front_of, behind_stops, length_in_lem}
use Rattle.text.proofs.Places.{here}
use Rattle.text.proofs.Stretch.{Stretch, behind_some}
use Rattle.earlier.specs.Earlier.{name_at}

module _ (s w : List ℕ) (place : ℕ) (inside : place + length w < length s) where
  abbrev standing : List ℕ
  standing = take (length w) (drop place s)

  abbrev behind : ℕ
  behind = get_or s (place + length w) 0

  -- where the name stands, its bytes do, and no letter or digit behind them
  module _ (e : name_at s place ≡ w) where
    long : length_in is_name_byte (drop place s) ≡ length w
    long = sym (length-take-le (length_in is_name_byte (drop place s)) (drop place s) (length_in_lem is_name_byte (drop place s))) ∙ ap length e

    pub name_bytes : standing ≡ w
    name_bytes = ap (λ (n : ℕ). take n (drop place s)) (sym long) ∙ e

    pub name_ends : is_name_byte behind ≡ false
    unfolding starts_in
    name_ends =
        let run : Stretch is_name_byte s place (place + length w) = (omega (arith, long), omega arith, omega arith) in
        rw (behind_some is_name_byte s place (place + length w) run inside) at (behind_stops is_name_byte (drop place s))

  -- and the other way round
  name_stands : all is_name_byte w ≡ true → standing ≡ w → is_name_byte behind ≡ false → name_at s place ≡ w
  unfolding starts_in
  name_stands letters e stops =
      let rest : drop (length w) (drop place s) ≡ behind ∷ drop (place + length w + 1) s =
      drop-drop (length w) place s ∙ here s (place + length w) inside in
      let whole : drop place s ≡ w ++ (behind ∷ drop (place + length w + 1) s) =
      sym (take-append-drop (length w) (drop place s)) ∙ rw (e, rest) in
      rw whole (front_of is_name_byte w (behind ∷ drop (place + length w + 1) s) letters stops)

  -- another first letter, and other bytes
  pub first_apart : 0 < length w → (get_or s place 0 ≡ get_or w 0 0 → ⊥) → false ≡ same (name_at s place) w
  first_apart some other =
      split (same (name_at s place) w)
      (λ e. let bytes = name_bytes (same_is _ w e) in
      absurd (other (ap (λ (n : ℕ). get_or s n 0) (zeroth place) ∙ sym (get_or-drop place s 0 0) ∙ sym (get_or-take (length w) (drop place s) 0 0 some)
      ∙ ap (λ (l : List ℕ). get_or l 0 0) bytes)))
      (λ e. sym e)
    where
      zeroth : (n : ℕ) → n ≡ n + 0
      zeroth n = omega arith

  pub bytes_apart : same standing w ≡ false → false ≡ same (name_at s place) w
  bytes_apart f = split (same (name_at s place) w) (λ e. true_false (sym (ap (λ (l : List ℕ). same l w) (name_bytes (same_is _ w e)) ∙ same_of w) ∙ f)) (λ e. sym e)

  -- the same bytes, by what stands behind them
  pub by_behind : all is_name_byte w ≡ true → same standing w ≡ true → not (is_name_byte behind) ≡ same (name_at s place) w
  by_behind letters t =
      split (is_name_byte behind)
      (λ b. rw b (split (same (name_at s place) w) (λ e. true_false (sym b ∙ name_ends (same_is _ w e))) (λ e. sym e)))
      (λ b. rw b (sym (ap (λ (l : List ℕ). same l w) (name_stands letters (same_is _ w t) b) ∙ same_of w)))
