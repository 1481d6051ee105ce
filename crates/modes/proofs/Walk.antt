-- Names one after another, from a place of the table on: so many and one more.
-- Over plain lists. Assumes nothing.
use Prim.Native.Nat.{ℕ, zero, suc, ◌+◌, ◌<◌}
use mathlib.Core.Path.{◌≡◌, refl, ap, ◌∙◌}
use mathlib.Core.List.{List, [], ◌∷◌, ◌++◌}
use native.Mathlib.Nat.{zero-add}
use native.Mathlib.Numerals.{add-one}
use native.Mathlib.Omega.{arith}
use lib.ListN.{length, get_or, take, drop, length-drop}
use lib.Seq.{drop-drop}
use Rattle.text.proofs.Places.{here}
use Rattle.modes.specs.Table.{names_of, size_of, Whole}

-- ---- one name

module _ (t : List ℕ) (at : ℕ) (h : at < length t) where
  one_name : names_of 1 (drop at t) ≡ take (get_or t at 0) (drop (at + 1) t) ∷ []
  unfolding names_of
  one_name = rw (here t at h)

  one_size : size_of 1 (drop at t) ≡ 1 + get_or t at 0
  unfolding size_of
  one_size = rw (here t at h) (omega arith)

-- ---- so many names, and one more

snoc : (i : ℕ) (s : List ℕ) → names_of (suc i) s ≡ names_of i s ++ names_of 1 (drop (size_of i s) s)
unfolding names_of size_of
snoc zero s = refl
snoc (suc i) [] = refl
snoc (suc i) (b ∷ s) = ap (λ (ns : List (List ℕ)). take b s ∷ ns) (snoc i (drop b s) ∙ rw drop-drop)

sizes_snoc : (i : ℕ) (s : List ℕ) → Whole i s → size_of (suc i) s ≡ size_of i s + size_of 1 (drop (size_of i s) s)
unfolding size_of
sizes_snoc zero s h = rw zero-add
sizes_snoc (suc i) [] h = absurd (omega arith)
sizes_snoc (suc i) (b ∷ s) h = omega (arith, rw drop-drop at (sizes_snoc i (drop b s) (omega (arith, length-drop b s))))

module _ (t : List ℕ) (start i place : ℕ) (ends : place ≡ start + size_of i (drop start t)) (h : place < length t) where
  pub names_more : names_of (i + 1) (drop start t) ≡ names_of i (drop start t) ++ (take (get_or t place 0) (drop (place + 1) t) ∷ [])
  unfolding names_of
  names_more = rw (add-one i, snoc i (drop start t), drop-drop, ← ends, one_name t place h)

  pub sizes_more : start + size_of (i + 1) (drop start t) ≡ place + 1 + get_or t place 0
  unfolding size_of
  sizes_more =
      let w : Whole i (drop start t) = omega (arith, length-drop start t) in
      let one : size_of (i + 1) (drop start t) ≡ size_of i (drop start t) + size_of 1 (drop place t)
      = rw (add-one i, sizes_snoc i (drop start t) w, drop-drop, ← ends) in
      omega (arith, one_size t place h)

-- so many names that are all there are so many
pub names_many : (n : ℕ) (s : List ℕ) → Whole n s → length (names_of n s) ≡ n
unfolding names_of size_of
names_many zero s h = refl
names_many (suc n) [] h = absurd (omega arith)
names_many (suc n) (b ∷ s) h = ap suc (names_many n (drop b s) (omega (arith, length-drop b s)))
