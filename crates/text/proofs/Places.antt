-- A place in a list: the byte that stands there and what is left behind it. Assumes nothing.
-- Code goes by places, the definitions by what is left of the list; these laws cross over.
use Prim.Native.Nat.{ℕ, suc, ◌+◌, ◌-◌, ◌<◌, ◌≤◌}
use mathlib.Core.Path.{◌≡◌, sym, ap, ◌∙◌}
use mathlib.Core.List.{List, ◌∷◌, ◌++◌}
use native.Mathlib.Numerals.{add-one}
use native.Mathlib.Omega.{arith}
use lib.ListN.{length, get_or, take, drop, length-drop, length-append, take-append-drop}
use lib.Seq.{take_all, drop-cons, drop-drop, drop-append_seam}
use Rattle.paper.specs.Found.{place_in}
use Rattle.paper.proofs.Finds.{Tail, whole, past, tail_length, tail_then, tail_drop}

-- what is left at a place inside: its byte, and what is left behind it
pub here : (s : List ℕ) (i : ℕ) → i < length s → drop i s ≡ get_or s i 0 ∷ drop (i + 1) s
here s i h = rw add-one (drop-cons s i 0 h)

-- the part before a place, the byte that stands there, and what is left behind it
pub parts_at : (w : List ℕ) (n : ℕ) → n < length w → w ≡ take n w ++ (get_or w n 0 ∷ drop (n + 1) w)
parts_at w n h = sym (take-append-drop n w) ∙ ap (λ (x : List ℕ). take n w ++ x) (here w n h)

-- a part that goes on to the end
pub part_rest : (w : List ℕ) (i : ℕ) → take (length w - i) (drop i w) ≡ drop i w
part_rest w i = take_all (length w - i) (drop i w) (omega (arith, length-drop i w))

-- what is left from a place on begins at that place
pub place_back : (s : List ℕ) (i : ℕ) → i ≤ length s → place_in s (drop i s) ≡ i
place_back s i h = omega (arith, length-drop i s)

-- where something is left in front of the rest, the place is inside, and the rest is what is left behind it
pub front_inside : (s : List ℕ) (i b : ℕ) (left : List ℕ) → drop i s ≡ b ∷ left → i < length s
front_inside s i b left e = omega (arith, length-drop i s, ap length e)

pub front_behind : (s : List ℕ) (i b : ℕ) (left : List ℕ) → drop i s ≡ b ∷ left → left ≡ drop (i + 1) s
front_behind s i b left e =
    let x : b ∷ left ≡ get_or s i 0 ∷ drop (i + 1) s = sym e ∙ here s i (front_inside s i b left e) in
    cc

-- what is left behind some bytes at a place is what is left from its own place on
pub left_back : (s : List ℕ) (i : ℕ) (p left : List ℕ) → i ≤ length s → drop i s ≡ p ++ left → left ≡ drop (place_in s left) s
left_back s i p left h e =
    let n : place_in s left ≡ i + length p = omega (arith, length-drop i s, ap length e, length-append p left) in
    rw (n, ← drop-drop (length p) i s, e, drop-append_seam p left)

-- a tail is what is left from its place on
pub tail_place : {s left : List ℕ} → Tail s left → left ≡ drop (place_in s left) s
tail_place (whole {s = s}) = let n : length s - length s ≡ 0 = omega arith in rw n
tail_place (past {s = s} {left = left} t) =
    let n : suc (length s) - length left ≡ suc (length s - length left) = omega (arith, tail_length t) in rw n (tail_place t)

-- what a reading from a place on leaves begins at a place ahead
pub record Left (s : List ℕ) (at : ℕ) (left : List ℕ) : Type 0 where
  pub ahead : at ≤ place_in s left
  pub inside : place_in s left ≤ length s
  pub same : left ≡ drop (place_in s left) s

pub left_at : (s : List ℕ) (at : ℕ) {left : List ℕ} → at ≤ length s → Tail (drop at s) left → Left s at left
left_at s at h t =
    let l = tail_length t in
    let d = length-drop at s in
    record { ahead = omega arith; inside = omega arith; same = tail_place (tail_then (tail_drop at s) t) }
