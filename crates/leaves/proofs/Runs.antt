-- A run of bytes of a class that stands at a place, by where it ends. Over plain lists and any class. Assumes nothing.
use Prim.Native.Nat.{ℕ, zero, suc, ◌-◌, ◌≤◌, ◌<◌}
use mathlib.Core.Path.{◌≡◌, refl, sym, ap, ◌∙◌}
use mathlib.Core.Bool.{Bool, true, false, not}
use mathlib.Core.List.{List, [], ◌∷◌}
use native.Mathlib.Omega.{arith}
use lib.Dec.{eqb}
use lib.ListN.{length, get_or, take, drop, length-drop}
use borrow.Author.Tests.{eq-eqb, ne_eqb}
use Rattle.paper.specs.Bytes.{all, starts_in, starts_with, length_in, behind, up_to, is}
use Rattle.paper.proofs.Tests.{split, true_false}
use Rattle.paper.proofs.Lists.{all_nil, all_cons}
use Rattle.text.proofs.Places.{part_rest}

module _ (class : ℕ → Bool) where
  -- the first bytes of a run are of the class
  pub all_front : (n : ℕ) (s : List ℕ) → n ≤ length_in class s → all class (take n s) ≡ true
  unfolding length_in
  all_front zero s h = all_nil class
  all_front (suc n) [] h = absurd (omega arith)
  all_front (suc n) (b ∷ l) h =
      split (class b)
      (λ e. all_cons class b (take n l) e (all_front n l (omega (arith, rw (e, length_in) at h))))
      (λ e. absurd (omega (arith, rw (e, length_in) at h)))

-- what is left of a word from a place on, as a part of it
abbrev pub from : List ℕ → ℕ → List ℕ
from w i = take (length w - i) (drop i w)

pub part_size : (w : List ℕ) (i : ℕ) → length (take (length w - i) (drop i w)) ≡ length w - i
part_size w i = ap length (part_rest w i) ∙ length-drop i w

-- one fixed byte in front
pub starts_one : (c : ℕ) (s : List ℕ) → starts_with (c ∷ []) s ≡ starts_in (is c) s
unfolding starts_with starts_in
starts_one c [] = refl
starts_one c (b ∷ l) = split (eqb b c) (λ e. rw (e, starts_with)) (λ e. rw (e, starts_with))

pub one_there : (c : ℕ) (s : List ℕ) → 1 ≤ length s → get_or s 0 0 ≡ c → starts_with (c ∷ []) s ≡ true
unfolding starts_with
one_there c [] h e = absurd (omega arith)
one_there c (b ∷ l) h e = rw (eq-eqb b c e, starts_with)

pub one_missing : (c : ℕ) (s : List ℕ) → (1 ≤ length s → get_or s 0 0 ≡ c → ⊥) → starts_with (c ∷ []) s ≡ false
unfolding starts_with
one_missing c [] n = refl
one_missing c (b ∷ l) n = rw (ne_eqb b c (n (omega arith)), starts_with)

-- the first byte of a list that has one
pub starts_first : (class : ℕ → Bool) (w : List ℕ) → 0 < length w → starts_in class w ≡ class (get_or w 0 0)
unfolding starts_in
starts_first class [] h = absurd (omega arith)
starts_first class (b ∷ l) h = refl

-- ---- up to a mark that is not of the class

-- nothing follows, or a mark
unfoldable pub ends_at : (ℕ → Bool) → List ℕ → Bool
ends_at mark [] = true
ends_at mark (b ∷ l) = mark b

pub mark_ends : (c : ℕ) (s : List ℕ) → starts_with (c ∷ []) s ≡ true → ends_at (is c) s ≡ true
unfolding starts_with ends_at
mark_ends c [] e = refl
mark_ends c (b ∷ l) e = split (eqb b c) (λ q. q) (λ q. true_false (sym (rw (q, starts_with) at e)))

pub no_mark_ends : (c : ℕ) (s : List ℕ) → starts_with (c ∷ []) s ≡ false → ends_at (is c) s ≡ true → s ≡ []
unfolding starts_with ends_at
no_mark_ends c [] e f = refl
no_mark_ends c (b ∷ l) e f = true_false (rw (f, starts_with) at e)

module _ (class mark : ℕ → Bool) (apart : (b : ℕ) → class b ≡ true → mark b ≡ false) where
  -- what is in front of the mark is the run, and more than that where something else follows
  pub up_to_run : (s : List ℕ) → ends_at mark (behind class s) ≡ true → length_in (λ b. not (mark b)) s ≡ length_in class s
  unfolding ends_at length_in
  up_to_run [] e = refl
  up_to_run (b ∷ l) e =
      split (class b)
      (λ c. rw (c, length_in, apart b c) (ap suc (up_to_run l (rw (c, length_in) at e))))
      (λ c. rw (c, length_in, rw (c, length_in) at e))

  pub up_to_more : (s : List ℕ) → ends_at mark (behind class s) ≡ false → all class (up_to mark s) ≡ false
  unfolding ends_at length_in all
  up_to_more [] e = true_false e
  up_to_more (b ∷ l) e =
      split (class b)
      (λ c. rw (length_in, apart b c, c) (up_to_more l (rw (c, length_in) at e)))
      (λ c. rw (length_in, rw (c, length_in) at e, c))
