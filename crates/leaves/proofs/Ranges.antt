-- Stretches of numbers: tests of all of them, and whether a list of ranges has them, by computation. Over plain lists. Assumes nothing.
-- Document 01, "The grammar", Values: the letters of an IRI are such ranges.
use Prim.Native.Nat.{ℕ, zero, suc, ◌+◌, ◌*◌, ◌%◌, ◌≤◌, ◌<◌}
use mathlib.Core.Path.{◌≡◌, refl, sym, ap, ◌∙◌}
use mathlib.Core.Bool.{Bool, true, false, ◌&&◌, ◌||◌, or-false}
use mathlib.Core.List.{List, [], ◌∷◌}
use native.Mathlib.Omega.{arith}
use lib.Dec.{leb}
use borrow.Author.Tests.{leb-true, leb-false}
use Rattle.paper.specs.Bytes.{within}
use Rattle.paper.specs.Values.{in_ranges}
use Rattle.paper.proofs.Tests.{split, true_false, either, or_right, inside, below, above}
use Rattle.paper.proofs.Lists.{both}

-- a test of so many numbers, from one on
abbrev pub every : (ℕ → Bool) → ℕ → ℕ → Bool
every test low zero = true
every test low (suc n) = test low && every test (low + 1) n

pub every_in : (test : ℕ → Bool) (n low b : ℕ) → every test low n ≡ true → low ≤ b → b < low + n → test b ≡ true
every_in test zero low b e h k = absurd (omega arith)
every_in test (suc n) low b e h k =
    let t = both (test low) (every test (low + 1) n) e in
    split (leb b low) (λ l. let q : b ≡ low = omega (arith, leb-true b low l) in ap test q ∙ t.0)
    (λ l. every_in test n (low + 1) b t.1 (omega (arith, leb-false b low l)) (omega arith))

-- no range of a list has a number from low to high; one range has them all
abbrev pub clear : ℕ → ℕ → List (ℕ × ℕ) → Bool
clear low high [] = true
clear low high (r ∷ rs) = (leb (r.1 + 1) low || leb (high + 1) r.0) && clear low high rs

abbrev pub covered : ℕ → ℕ → List (ℕ × ℕ) → Bool
covered low high [] = false
covered low high (r ∷ rs) = (leb r.0 low && leb high r.1) || covered low high rs

module _ (low high v : ℕ) (l : low ≤ v) (h : v ≤ high) where
  row_out : (r : ℕ × ℕ) → leb (r.1 + 1) low || leb (high + 1) r.0 ≡ true → within r.0 r.1 v ≡ false
  row_out r e =
      either (leb (r.1 + 1) low) (leb (high + 1) r.0) e
      (λ k. above r.0 r.1 v (omega (arith, leb-true (r.1 + 1) low k)))
      (λ k. below r.0 r.1 v (omega (arith, leb-true (high + 1) r.0 k)))

  pub clear_out : (rs : List (ℕ × ℕ)) → clear low high rs ≡ true → in_ranges rs v ≡ false
  unfolding in_ranges
  clear_out [] e = refl
  clear_out (r ∷ rs) e =
      let t = both (leb (r.1 + 1) low || leb (high + 1) r.0) (clear low high rs) e in
      rw (row_out r t.0, clear_out rs t.1)

  row_in : (r : ℕ × ℕ) → leb r.0 low && leb high r.1 ≡ true → within r.0 r.1 v ≡ true
  row_in r e =
      let t = both (leb r.0 low) (leb high r.1) e in
      inside r.0 r.1 v (omega (arith, leb-true r.0 low t.0)) (omega (arith, leb-true high r.1 t.1))

  pub covered_in : (rs : List (ℕ × ℕ)) → covered low high rs ≡ true → in_ranges rs v ≡ true
  unfolding in_ranges
  covered_in [] e = true_false (sym e)
  covered_in (r ∷ rs) e =
      either (leb r.0 low && leb high r.1) (covered low high rs) e (λ k. rw (row_in r k))
      (λ k. or_right (within r.0 r.1 v) (in_ranges rs v) (covered_in rs k))

-- so many planes of 0x10000 numbers from one on, each without its last two, and further ranges
abbrev pub planes : ℕ → ℕ → List (ℕ × ℕ) → List (ℕ × ℕ)
planes k zero rest = rest
planes k (suc n) rest = (k * 0x10000, k * 0x10000 + 0xFFFD) ∷ planes (k + 1) n rest

module _ (v : ℕ) (rest : List (ℕ × ℕ)) (e : in_ranges rest v ≡ false) where
  before_planes : (n k : ℕ) → v < k * 0x10000 → in_ranges (planes k n rest) v ≡ false
  unfolding in_ranges
  before_planes zero k h = e
  before_planes (suc n) k h = rw (below (k * 0x10000) (k * 0x10000 + 0xFFFD) v h, before_planes n (k + 1) (omega arith))

  pub in_planes : (n k : ℕ) → k * 0x10000 ≤ v → v < (k + n) * 0x10000 → leb (v % 0x10000) 0xFFFD ≡ in_ranges (planes k n rest) v
  unfolding in_ranges
  in_planes zero k l h = absurd (omega arith)
  in_planes (suc n) k l h =
      split (leb ((k + 1) * 0x10000) v)
      (λ j. let m = leb-true ((k + 1) * 0x10000) v j in
      rw (above (k * 0x10000) (k * 0x10000 + 0xFFFD) v (omega arith)) (in_planes n (k + 1) m (omega arith)))
      (λ j. let m = leb-false ((k + 1) * 0x10000) v j in
      rw (before_planes n (k + 1) m, or-false (within (k * 0x10000) (k * 0x10000 + 0xFFFD) v)) (in_plane m))
    where
      in_plane : v < (k + 1) * 0x10000 → leb (v % 0x10000) 0xFFFD ≡ within (k * 0x10000) (k * 0x10000 + 0xFFFD) v
      in_plane m =
          split (leb (v % 0x10000) 0xFFFD)
          (λ i. i ∙ sym (inside (k * 0x10000) (k * 0x10000 + 0xFFFD) v l (omega (arith, leb-true (v % 0x10000) 0xFFFD i))))
          (λ i. i ∙ sym (above (k * 0x10000) (k * 0x10000 + 0xFFFD) v (omega (arith, leb-false (v % 0x10000) 0xFFFD i))))
