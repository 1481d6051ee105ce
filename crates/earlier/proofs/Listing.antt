-- The names that an index lists: none, one more, and what a search tells of them. And that a cell is free where there are more cells than names.
-- Over plain lists. Assumes nothing.
use Prim.Native.Nat.{ℕ, zero, suc, ◌+◌, ◌≤◌, ◌<◌}
use mathlib.Core.Path.{◌≡◌, refl, sym, ap, ◌∙◌}
use mathlib.Core.Bool.{true, false}
use mathlib.Core.List.{List, [], ◌∷◌, ◌++◌}
use native.Mathlib.Omega.{arith}
use lib.ListN.{length, get_or, set, length-set, length-append}
use lib.Seq.{get_or-set_same, get_or-set_other}
use lib.Dec.{leb, eqb}
use borrow.Author.Tests.{le-leb, lt-leb, eqb-true, eqb-false}
use Rattle.paper.specs.Bytes.{same}
use Rattle.paper.specs.Names.{among}
use Rattle.paper.proofs.Tests.{split, true_false, either, or_left, or_right, up_to}
use Rattle.paper.proofs.Lists.{same_is, same_of}
use Rattle.paper.proofs.Distinct.{among_here, among_either}
use Rattle.earlier.specs.Earlier.{name_at, around, start_at, OnWay, Held, Reached, taken_in, Lists}
use Rattle.earlier.proofs.Ways.{around_in, says_here}

-- ---- how many cells are taken

-- a cell that is free
pub record Vacant (first : ℕ) (x : List ℕ) : Type 0 where
  pub cell : ℕ
  pub within : cell < length x
  pub free : get_or x cell 0 < first

module _ (first : ℕ) where
  taken_on : (p : ℕ) (x : List ℕ) → first ≤ p → taken_in first (p ∷ x) ≡ suc (taken_in first x)
  unfolding taken_in
  taken_on p x h = rw (le-leb first p h)

  taken_not : (p : ℕ) (x : List ℕ) → p < first → taken_in first (p ∷ x) ≡ taken_in first x
  unfolding taken_in
  taken_not p x h = rw (lt-leb first p h)

  -- not all are, so that one is free
  pub vacant : (x : List ℕ) → taken_in first x < length x → Vacant first x
  vacant [] h = absurd (omega arith)
  vacant (p ∷ x) h =
      up_to first p
      (λ l. let v = vacant x (omega (arith, taken_on p x l)) in record { cell = suc v.cell; within = omega (arith, v.within); free = v.free })
      (λ l. record { cell = 0; within = omega arith; free = l })

  -- none is, where all have lower numbers
  none_taken : (x : List ℕ) → ((c : ℕ) → get_or x c 0 < first) → taken_in first x ≡ 0
  unfolding taken_in
  none_taken [] h = refl
  none_taken (p ∷ x) h = taken_not p x (h 0) ∙ none_taken x (λ c. h (suc c))

  -- at most one more, where one cell changes
  one_taken : (x : List ℕ) (c p : ℕ) → taken_in first (set x c p) ≤ suc (taken_in first x)
  unfolding taken_in
  one_taken [] c p = omega arith
  one_taken (q ∷ x) zero p =
      split (leb first p) (λ e. split (leb first q) (λ f. rw (e, f) (omega arith)) (λ f. rw (e, f) (omega arith)))
      (λ e. split (leb first q) (λ f. rw (e, f) (omega arith)) (λ f. rw (e, f) (omega arith)))
  one_taken (q ∷ x) (suc c) p =
      let h = one_taken x c p in split (leb first q) (λ f. rw f (omega arith)) (λ f. rw f (omega arith))

-- no start lies behind a place, and so none does where one more lies there
pub set_before : (x : List ℕ) (cell at : ℕ) → ((c : ℕ) → get_or x c 0 ≤ at) → (c : ℕ) → get_or (set x cell at) c 0 ≤ at
set_before [] cell at h c = h c
set_before (p ∷ x) zero at h zero = omega arith
set_before (p ∷ x) zero at h (suc c) = h (suc c)
set_before (p ∷ x) (suc cell) at h zero = h zero
set_before (p ∷ x) (suc cell) at h (suc c) = set_before x cell at (λ c. h (suc c)) c

-- ---- the names that are listed

-- none, where all cells have lower numbers
pub lists_none : (s : List ℕ) (first : ℕ) (x : List ℕ) → ((c : ℕ) → get_or x c 0 < first) → Lists s first x []
unfolding among
lists_none s first x h = record {
  few = omega (arith, none_taken first x h);
  only = λ c i t. absurd (omega (arith, h c));
  each = λ w e. true_false (sym e);
}

-- one of one is that one
among_one : (w v : List ℕ) → among (w ∷ []) v ≡ true → same w v ≡ true
unfolding among
among_one w v e = split (same w v) (λ f. f) (λ f. true_false (sym (rw (f, among) at e)))

module _ {s : List ℕ} {first : ℕ} {x : List ℕ} {names : List (List ℕ)} (l : Lists s first x names) (some : 0 < length x) {w : List ℕ} where
  -- one that was found is one of them
  pub listed_again : Held s first x w → among names w ≡ true
  listed_again h =
      ap (among names) (sym h.named) ∙ l.only (around (length x) h.step) (around_in (length x) w some h.step h.way.once) h.here

  -- one that was not found is none of them
  module _ {cell : ℕ} (r : Reached s first x w cell) (free : get_or x cell 0 < first) where
    free_there : start_at x r.step < first
    free_there = rw (says_here s first x w some cell r) free

    not_held : Held s first x w → ⊥
    not_held h =
        up_to (h.step + 1) r.step
        (λ before. true_false (sym (same_of w) ∙ ap (λ (v : List ℕ). same v w) (sym h.named) ∙ r.others h.step h.way.from (omega arith)))
        (λ behind. up_to (r.step + 1) h.step
        (λ further. omega (arith, h.way.taken r.step r.way.from (omega arith), free_there))
        (λ there. let e : h.step ≡ r.step = omega arith in omega (arith, free_there, rw e at h.here)))

    pub listed_new : among names w ≡ false
    listed_new = split (among names w) (λ e. absurd (not_held (l.each w e))) (λ e. e)

    -- it is listed in that cell, by where it starts
    module _ (at : ℕ) (behind : first ≤ at) (is : name_at s at ≡ w) where
      abbrev y : List ℕ
      y = set x cell at

      long : length y ≡ length x
      long = length-set x cell at

      cell_within : cell < length x
      cell_within = rw r.is (around_in (length x) w some r.step r.way.once)

      here : get_or y cell 0 ≡ at
      here = get_or-set_same x cell at 0 cell_within

      elsewhere : (c : ℕ) → (c ≡ cell → ⊥) → get_or y c 0 ≡ get_or x c 0
      elsewhere c n = get_or-set_other x cell c at 0 n

      taken_still : (c : ℕ) → first ≤ get_or x c 0 → first ≤ get_or y c 0
      taken_still c h = split (eqb c cell) (λ e. rw (eqb-true c cell e, here) behind) (λ e. rw (elsewhere c (eqb-false c cell e)) h)

      way_still : {v : List ℕ} {i : ℕ} → OnWay first x v i → OnWay first y v i
      way_still {v} {i} k = record {
        from = rw long k.from;
        once = rw long k.once;
        taken = λ j f g. rw long (taken_still (around (length x) j) (k.taken j (rw long at f) g));
      }

      held_still : {v : List ℕ} → Held s first x v → Held s first y v
      held_still {v} h =
          let other : (around (length x) h.step ≡ cell → ⊥) = λ e. omega (arith, free, rw e at h.here) in
          let same_start : start_at y h.step ≡ start_at x h.step = rw long (elsewhere (around (length x) h.step) other) in
          record { step = h.step; way = way_still h.way; here = rw same_start h.here; named = ap (name_at s) same_start ∙ h.named }

      held_new : Held s first y w
      held_new =
          let start : start_at y r.step ≡ at = rw (long, ← r.is) here in
          record { step = r.step; way = way_still r.way; here = rw start behind; named = ap (name_at s) start ∙ is }

      abbrev more : List (List ℕ)
      more = names ++ (w ∷ [])

      among_old : (v : List ℕ) → among names v ≡ true → among more v ≡ true
      among_old v e = among_either names (w ∷ []) v ∙ or_left _ _ e

      among_last : among more w ≡ true
      among_last = among_either names (w ∷ []) w ∙ or_right (among names w) (among (w ∷ []) w) (among_here w w [] (same_of w))

      pub lists_more : Lists s first y more
      lists_more = record {
        few = omega (arith, one_taken first x cell at, l.few, length-append names (w ∷ []));
        only = λ c i t. split (eqb c cell)
            (λ e. rw (eqb-true c cell e, here) (ap (among more) is ∙ among_last))
            (λ e. let same_start = elsewhere c (eqb-false c cell e) in
            rw same_start (among_old _ (l.only c (rw long at i) (rw same_start at t))));
        each = λ v e. either (among names v) (among (w ∷ []) v) (sym (among_either names (w ∷ []) v) ∙ e)
            (λ f. held_still (l.each v f))
            (λ f. rw (← same_is w v (among_one w v f)) held_new);
      }
