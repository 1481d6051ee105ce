-- Lists that are parted at the first byte of a set: 001's concatenations, of which no part in front has such a byte. Over any rules of the parts.
-- Document 02, Two; 001 §18. Assumes nothing.
use Prim.Native.Nat.{ℕ}
use mathlib.Core.Path.{◌≡◌, refl, sym, ap, ◌∙◌}
use mathlib.Core.Bool.{Bool, true, false, not, ◌&&◌, ◌||◌}
use mathlib.Core.List.{List, [], ◌∷◌, ◌++◌, append-nil}
use Rattle.paper.specs.Bytes.{all, elem, starts_in, up_to, onward, past}
use Rattle.paper.specs.Times.{among, is_empty, parted, perhaps}
use Rattle.paper.proofs.Tests.{true_false, either, or_right}
use Rattle.paper.proofs.Lists.{both, and, empty_is, all_cons, all_append, all_among, front_behind, front_of, behind_of, by_mark}

-- a byte that is none of these
abbrev pub other : List ℕ → ℕ → Bool
other set b = not (elem b set)

-- First, a byte of the set, Second
pub record Parted (set : List ℕ) (first second : List ℕ → Bool) (w : List ℕ) : Type 0 where
  pub front : List ℕ
  pub mark : ℕ
  pub rest : List ℕ
  pub whole : w ≡ front ++ (mark ∷ rest)
  pub one : elem mark set ≡ true
  pub fits : first front ≡ true
  pub also : second rest ≡ true

module _ (set : List ℕ) (first second : List ℕ → Bool) where
  -- what the definition accepts is so made
  pub parted_splits : (w : List ℕ) → parted set first second w ≡ true → Parted set first second w
  unfolding parted starts_in
  parted_splits w e =
      let h = both (first (up_to (among set) w) && starts_in (among set) (onward (among set) w)) (second (past (among set) w)) e in
      let k = both (first (up_to (among set) w)) (starts_in (among set) (onward (among set) w)) h.0 in
      by_mark (among set) w (λ z. true_false (sym (rw z at k.1)))
      (λ b m z. record { front = up_to (among set) w; mark = b; rest = past (among set) w; whole = z; one = m; fits = k.0; also = h.1 })

  -- and what is so made is accepted, where no First has a byte of the set
  module _ (apart : (x : List ℕ) → first x ≡ true → all (other set) x ≡ true) where
    pub parted_joins : (w : List ℕ) → Parted set first second w → parted set first second w ≡ true
    unfolding parted starts_in
    parted_joins w p =
        let none = apart p.front p.fits in
        let stop : starts_in (other set) (p.mark ∷ p.rest) ≡ false = ap not p.one in
        rw (p.whole, front_of (other set) p.front (p.mark ∷ p.rest) none stop, behind_of (other set) p.front (p.mark ∷ p.rest) none stop, p.fits, p.one, p.also)

  -- First, [ a byte of the set, Second ]: First alone, or both
  pub perhaps_splits : {X : Type 0} (w : List ℕ) → perhaps set first second w ≡ true → (first w ≡ true → X) → (Parted set first second w → X) → X
  unfolding perhaps
  perhaps_splits w e alone joined =
      let h = both (first (up_to (among set) w)) (is_empty (onward (among set) w) || second (past (among set) w)) e in
      either (is_empty (onward (among set) w)) (second (past (among set) w)) h.1
      (λ z. alone (unmarked h.0 (empty_is (onward (among set) w) z)))
      (λ s. by_mark (among set) w (λ z. alone (unmarked h.0 z))
      (λ b m z. joined (record { front = up_to (among set) w; mark = b; rest = past (among set) w; whole = z; one = m; fits = h.0; also = s })))
    where
      unmarked : first (up_to (among set) w) ≡ true → onward (among set) w ≡ [] → first w ≡ true
      unmarked f z =
          ap first (sym (front_behind (other set) w) ∙ ap (λ (x : List ℕ). up_to (among set) w ++ x) z ∙ append-nil (up_to (among set) w)) ∙ f

  module _ (apart : (x : List ℕ) → first x ≡ true → all (other set) x ≡ true) where
    pub perhaps_alone : (w : List ℕ) → first w ≡ true → perhaps set first second w ≡ true
    unfolding perhaps starts_in
    perhaps_alone w f =
        let whole = sym (append-nil w) in
        rw (whole, front_of (other set) w [] (apart w f) refl, behind_of (other set) w [] (apart w f) refl, f)

    pub perhaps_joins : (w : List ℕ) → Parted set first second w → perhaps set first second w ≡ true
    unfolding perhaps parted starts_in
    perhaps_joins w p =
        let h = both _ (second (past (among set) w)) (parted_joins apart w p) in
        and (both (first (up_to (among set) w)) _ h.0).0 (or_right (is_empty (onward (among set) w)) _ h.1)

-- ---- bytes of all parts

module _ (class : ℕ → Bool) (set : List ℕ) (first second : List ℕ → Bool) (marks : all class set ≡ true)
    (fronts : (x : List ℕ) → first x ≡ true → all class x ≡ true) (rests : (x : List ℕ) → second x ≡ true → all class x ≡ true) where
  made_bytes : (w : List ℕ) → Parted set first second w → all class w ≡ true
  made_bytes w p =
      rw p.whole
      (all_append class p.front (p.mark ∷ p.rest) (fronts p.front p.fits)
      (all_cons class p.mark p.rest (all_among class p.mark set p.one marks) (rests p.rest p.also)))

  pub parted_bytes : (w : List ℕ) → parted set first second w ≡ true → all class w ≡ true
  parted_bytes w e = made_bytes w (parted_splits set first second w e)

  pub perhaps_bytes : (w : List ℕ) → perhaps set first second w ≡ true → all class w ≡ true
  perhaps_bytes w e = perhaps_splits set first second w e (fronts w) (made_bytes w)
