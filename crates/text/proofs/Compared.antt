-- The same bytes, fixed bytes in front, and a byte among others, as the library compares them. Assumes nothing.
use Prim.Native.Nat.{ℕ, ◌-◌, ◌≤◌, min}
use mathlib.Core.Path.{◌≡◌, refl, sym, ap, ◌∙◌}
use mathlib.Core.Bool.{Bool, true, false}
use mathlib.Core.List.{List, [], ◌∷◌, reverse}
use native.Mathlib.Omega.{arith}
use lib.ListN.{length, take, drop, length-drop, length-append, drop_of_length-le}
use lib.Dec.{eqb}
use borrow.Author.Tests.{eq-eqb, ne_eqb, eqb-true, eqb-false}
use Rattle.std.specs.Cmp.Lexicographic.{pointwise}
use Rattle.std.specs.Bool.{Decides}
use Rattle.std.specs.List.{list_any}
use Rattle.std.proofs.lemmas.List.{reverse-reverse}
use Rattle.paper.proofs.Tests.{split, up_to, true_false}
use Rattle.paper.proofs.Lists.{starts_is, same_is, same_of}
use Rattle.text.proofs.Places.{part_rest}
use Rattle.paper.specs.Bytes.{same, starts_with, elem}

-- the same bytes, from their ends on
module _ (s t : List ℕ) where
  -- lists of two lengths are not the same
  pub same_long : (r : Bool) → r ≡ false → (length s ≡ length t → ⊥) → r ≡ same s t
  same_long r off n = off ∙ split (same s t) (λ e. absurd (n (ap length (same_is s t e)))) (λ e. sym e)

  pub same_turned : (r : Bool) → Decides r (reverse s ≡ reverse t) → r ≡ same s t
  same_turned r decides =
      split (same s t) (λ e. decides.1 (ap reverse (same_is s t e)) ∙ sym e)
      (λ e. split r
      (λ f. let q : s ≡ t = sym (reverse-reverse s) ∙ ap reverse (decides.0 f) ∙ reverse-reverse t in true_false (sym (rw q (same_of t)) ∙ e))
      (λ f. f ∙ sym e))

-- whether a test of two numbers is asked one way or the other
eqb_turn : (a b : ℕ) → eqb a b ≡ eqb b a
eqb_turn a b = split (eqb a b) (λ e. e ∙ sym (eq-eqb b a (sym (eqb-true a b e)))) (λ e. e ∙ sym (ne_eqb b a (λ q. eqb-false a b e (sym q))))

-- fixed bytes in front, one by one
pub starts_each : (part s : List ℕ) → pointwise eqb part (take (length part) s) ≡ starts_with part s
unfolding starts_with
starts_each [] s = refl
starts_each (p ∷ ps) [] = refl
starts_each (p ∷ ps) (b ∷ s) = rw (eqb_turn p b) (split (eqb b p) (λ e. rw (e, starts_with) (starts_each ps s)) (λ e. rw (e, starts_with)))

-- what is left from a place on, or nothing past the end
left_from : (s : List ℕ) (at from : ℕ) → from ≡ min at (length s) → take (length s - from) (drop from s) ≡ drop at s
left_from s at from e =
    part_rest s from
    ∙ up_to at (length s) (λ h. let n : from ≡ at = omega arith in rw n)
    (λ h. let past : length s ≤ from = omega arith in drop_of_length-le s past ∙ sym (drop_of_length-le s (omega arith)))

pub starts_from : (part s : List ℕ) (at from : ℕ) → from ≡ min at (length s)
    → pointwise eqb part (take (length part) (take (length s - from) (drop from s))) ≡ starts_with part (drop at s)
starts_from part s at from e = rw (left_from s at from e) (starts_each part (drop at s))

-- a byte among others, one by one
pub among_each : (b : ℕ) (these : List ℕ) → list_any (λ c. eqb c b) these ≡ elem b these
unfolding elem
among_each b [] = refl
among_each b (c ∷ these) = rw (eqb_turn c b, elem, among_each b these)

-- fixed bytes that stand at a place are no longer than what is left there
pub stands_inside : (part s : List ℕ) (at : ℕ) → starts_with part (drop at s) ≡ true → length part ≤ length s - at
stands_inside part s at e = omega (arith, ap length (starts_is part (drop at s) e), length-append part (drop (length part) (drop at s)), length-drop at s)
