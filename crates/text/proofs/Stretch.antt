-- The bytes of a class that stand at a place: a turn of a loop that walks them, its two ends, and what is left behind them.
-- Over plain lists and any class. Assumes nothing.
use Prim.Native.Nat.{ℕ, zero, suc, ◌+◌, ◌-◌, ◌≤◌, ◌<◌}
use mathlib.Core.Path.{◌≡◌, refl, sym, ap, ◌∙◌}
use mathlib.Core.List.{List, [], ◌∷◌}
use mathlib.Core.Bool.{Bool, true, false, ◌&&◌}
use native.Mathlib.Omega.{arith}
use native.Mathlib.Nat.{add-zero, zero-add}
use lib.ListN.{length, get_or, take, drop, drop_of_length-le}
use lib.Seq.{drop-drop}
use lib.Dec.{eqb}
use borrow.Author.Tests.{eqb-true}
use Rattle.paper.proofs.Tests.{split, true_false, either, up_to}
use Rattle.paper.specs.Reading.{is_tab}
use Rattle.paper.specs.Bytes.{tab, space, is_blank, is_line_end, length_in, front, behind}
use Rattle.text.specs.Runs.{is_text, Skips, AllFrom}
use Rattle.text.proofs.Places.{here}

module _ (class : ℕ → Bool) (s : List ℕ) (i : ℕ) where
  pub goes_on : i < length s → class (get_or s i 0) ≡ true → i + length_in class (drop i s) ≡ (i + 1) + length_in class (drop (i + 1) s)
  unfolding length_in
  goes_on h e = rw (here s i h, length_in, e) (omega arith)

  pub stops : i < length s → class (get_or s i 0) ≡ false → i + length_in class (drop i s) ≡ i
  unfolding length_in
  stops h e = rw (here s i h, length_in, e) (add-zero i)

  pub cut_off : length s ≤ i → i + length_in class (drop i s) ≡ i
  unfolding length_in
  cut_off h = rw (drop_of_length-le s h) (add-zero i)

-- ---- where the bytes end

-- the bytes of a class stand from a place to an end, and no further
abbrev pub Stretch : (ℕ → Bool) → List ℕ → ℕ → ℕ → Type 0
Stretch class s at end = (end ≡ at + length_in class (drop at s)) × (at ≤ end) × (end ≤ length s)

module _ (class : ℕ → Bool) (s : List ℕ) (at end : ℕ) (run : Stretch class s at end) where
  pub behind_at : behind class (drop at s) ≡ drop end s
  behind_at = drop-drop (length_in class (drop at s)) at s ∙ ap (λ (k : ℕ). drop k s) (sym run.0)

  pub front_at : front class (drop at s) ≡ take (end - at) (drop at s)
  front_at = let n : length_in class (drop at s) ≡ end - at = omega (arith, run.0) in ap (λ (k : ℕ). take k (drop at s)) n

  pub behind_none : length s ≤ end → behind class (drop at s) ≡ []
  behind_none h = behind_at ∙ drop_of_length-le s h

  pub behind_some : end < length s → behind class (drop at s) ≡ get_or s end 0 ∷ drop (end + 1) s
  behind_some h = behind_at ∙ here s end h

-- ---- places ahead, up to which all is of the class

module _ (class : ℕ → Bool) (s : List ℕ) (at : ℕ) where
  pub skips_none : at ≤ length s → Skips class s at (at + 0)
  skips_none h = rw (add-zero at) (omega arith, h, refl)

  -- one byte further
  pub skips_on : (i : ℕ) → at + i < length s → class (get_or s (at + i) 0) ≡ true → Skips class s at (at + i) → Skips class s at (at + (i + 1))
  skips_on i h e k =
      let next : at + (i + 1) ≡ at + i + 1 = omega arith in
      rw next (omega arith, omega arith, sym (goes_on class s (at + i) h e) ∙ k.2)

  -- one stretch after another
  pub skips_then : (i next : ℕ) → Skips class s at i → Skips class s i next → Skips class s at next
  skips_then i next f g = (omega (arith, f.0, g.0), g.1, g.2 ∙ f.2)

  -- the run ends where it ends from there on
  pub skips_end : (i end : ℕ) → Skips class s at i → Stretch class s i end → Stretch class s at end
  skips_end i end f g = (g.0 ∙ f.2, omega (arith, f.0, g.1), g.2)

-- a turn of a loop that walks the run byte by byte, and its two ends
module _ (class : ℕ → Bool) (s : List ℕ) (at i : ℕ) (so_far : Skips class s at i) where
  pub run_on : i < length s → class (get_or s i 0) ≡ true → Skips class s at (i + 1)
  run_on h e = (omega (arith, so_far.0), omega arith, sym (goes_on class s i h e) ∙ so_far.2)

  pub run_stops : i < length s → class (get_or s i 0) ≡ false → Stretch class s at i
  run_stops h e = (sym (stops class s i h e) ∙ so_far.2, so_far.0, so_far.1)

  pub run_over : length s ≤ i → Stretch class s at i
  run_over h = (sym (cut_off class s i h) ∙ so_far.2, so_far.0, so_far.1)

-- ---- bytes of one class that are all of another

module _ (some class : ℕ → Bool) (are : (b : ℕ) → some b ≡ true → class b ≡ true) where
  -- the run goes on behind them
  pub length_on : (l : List ℕ) → length_in class l ≡ length_in some l + length_in class (behind some l)
  unfolding length_in
  length_on [] = refl
  length_on (b ∷ l) = split (some b) (λ e. rw (e, length_in, are b e) (omega (arith, length_on l))) (λ e. rw (e, length_in, zero-add))

  -- and ends in the same place from any of them on
  pub behind_on : (n : ℕ) (l : List ℕ) → n ≤ length_in some l → behind class (drop n l) ≡ behind class l
  unfolding length_in
  behind_on zero l h = refl
  behind_on (suc n) [] h = refl
  behind_on (suc n) (b ∷ l) h =
      split (some b) (λ e. rw (are b e, length_in) (behind_on n l (omega (arith, rw (e, length_in) at h)))) (λ e. absurd (omega (arith, rw (e, length_in) at h)))

  pub skips_some : (s : List ℕ) (at end : ℕ) → Stretch some s at end → Skips class s at end
  skips_some s at end run =
      (run.1, run.2, omega (arith, run.0, length_on (drop at s), ap (length_in class) (behind_at some s at end run)))

-- blanks are text, tabs among them
pub blank_text : (b : ℕ) → is_blank b ≡ true → is_text b ≡ true
unfolding is_blank is_line_end
blank_text b e = either (eqb b space) (eqb b tab) e (λ f. rw (eqb-true b space f)) (λ f. rw (eqb-true b tab f))

pub tab_text : (b : ℕ) → is_tab b ≡ true → is_text b ≡ true
unfolding is_line_end
tab_text b e = rw (eqb-true b tab e)

-- two tests that both hold
pub both : (a b : Bool) → (a && b) ≡ true → (a ≡ true) × (b ≡ true)
both true b e = (refl, e)
both false b e = true_false (sym e)

-- ---- places of a kind, from one to another

module _ {kind : ℕ → Type 0} where
  pub all_none : {at end : ℕ} → end ≡ at → AllFrom kind at end
  all_none e = record { ahead = omega arith; each = λ i l h. absurd (omega arith) }

  -- one place further
  pub all_on : {at i next : ℕ} → next ≡ i + 1 → AllFrom kind at i → kind i → AllFrom kind at next
  all_on {at} {i} e so_far here = record {
    ahead = omega (arith, so_far.ahead);
    each = λ k l h. up_to i k (λ m. let q : k ≡ i = omega arith in rw q here) (λ m. so_far.each k l m);
  }

  -- one stretch after another
  pub all_then : {at i next : ℕ} → AllFrom kind at i → AllFrom kind i next → AllFrom kind at next
  all_then {at} {i} f g = record { ahead = omega (arith, f.ahead, g.ahead); each = λ k l h. up_to i k (λ m. g.each k m h) (λ m. f.each k l m) }

-- what holds at a place, and behind each place of the kind where it holds there, holds behind all of them
module _ (P : ℕ → Type 0) {kind : ℕ → Type 0} {at end : ℕ} (all : AllFrom kind at end)
    (on : (i : ℕ) → at ≤ i → i < end → kind i → P i → P (i + 1)) where
  over_many : (n i : ℕ) → i ≡ at + n → i ≤ end → P at → P i
  over_many zero i e h p = let z : i ≡ at = omega arith in rw z p
  over_many (suc n) i e h p =
      let last : i ≡ at + n + 1 = omega arith in
      let l : at ≤ at + n = omega arith in
      let m : at + n < end = omega arith in
      rw last (on (at + n) l m (all.each (at + n) l m) (over_many n (at + n) refl (omega arith) p))

  pub all_over : P at → P end
  all_over p = over_many (end - at) end (omega (arith, all.ahead)) (omega arith) p

module _ (class : ℕ → Bool) (s : List ℕ) {at end : ℕ} where
  -- places of a class are passed
  pub skips_all : AllFrom (λ i. class (get_or s i 0) ≡ true) at end → end ≤ length s → Skips class s at end
  skips_all all h =
      all_over (λ i. Skips class s at i) all (λ i l m e so_far. run_on class s at i so_far (omega arith) e) (omega arith, omega (arith, all.ahead), refl)

  -- and end at a place of no such class, or with the list
  pub stretch_from : at ≤ end → ((i : ℕ) → at ≤ i → i < end → class (get_or s i 0) ≡ true) → end ≤ length s
      → (end < length s → class (get_or s end 0) ≡ false) → Stretch class s at end
  stretch_from ahead each h other =
      let skips = skips_all (record { ahead = ahead; each = each }) h in
      up_to (length s) end (λ l. run_over class s at end skips l) (λ l. run_stops class s at end skips l (other l))
