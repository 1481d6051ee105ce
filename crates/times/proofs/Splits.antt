-- A list that is parted where one of some bytes first stands: what the paper's definitions say of it by what is in front of that byte and behind it.
-- Over plain lists, any set and any rules of its parts; 001 §18. Assumes nothing.
use Prim.Native.Nat.{ℕ, ◌<◌}
use mathlib.Core.Path.{◌≡◌, refl, sym, ap, ◌∙◌}
use mathlib.Core.Bool.{Bool, true, false, ◌&&◌, ◌||◌, and-true, or-false}
use mathlib.Core.List.{List, [], ◌∷◌, ◌++◌, append-nil}
use native.Mathlib.Omega.{arith}
use lib.ListN.{length, length-append}
use lib.Dec.{eqb}
use borrow.Author.Tests.{eqb-true, ne_eqb}
use Rattle.std.specs.List.{list_any}
use Rattle.paper.specs.Bytes.{elem, length_in, starts_in, up_to, onward}
use Rattle.paper.specs.Times.{among, parted, perhaps}
use Rattle.paper.proofs.Tests.{split, true_false, either}
use Rattle.paper.proofs.Lists.{by_front, marked, front_behind}
use Rattle.paper.proofs.TimeKinds.{has}
use Rattle.paper.proofs.TimeParts.{other}
use Rattle.times.specs.Parts.{HasNone, IsParted}

module _ (set w : List ℕ) where
  -- ---- none of the set stands in the list

  module _ (none : HasNone set w) where
    pub has_no : has set w ≡ false
    unfolding starts_in
    has_no = rw none

    pub all_in_front : up_to (among set) w ≡ w
    all_in_front = sym (append-nil (up_to (among set) w)) ∙ rw none at (front_behind (other set) w)

  -- ---- one does

  pub by_one : {X : Type 0} → (HasNone set w → X) → (has set w ≡ true → X) → X
  unfolding starts_in
  by_one none one = by_front (onward (among set) w) none (λ b l e. one (rw e ((marked (among set) w b l e).0)))

  pub parted_at : (front : List ℕ) (b : ℕ) (rest : List ℕ) → front ≡ up_to (among set) w → onward (among set) w ≡ b ∷ rest → IsParted set w front rest
  unfolding starts_in
  parted_at front b rest f e = record { before = f; mark = rw e ((marked (among set) w b rest e).0); behind = rw e }

  module _ (front rest : List ℕ) (at : IsParted set w front rest) where
    -- what stands there, and how much is left
    from_mark : {X : Type 0} → ((b : ℕ) → onward (among set) w ≡ b ∷ rest → X) → X
    unfolding starts_in
    from_mark on = by_front (onward (among set) w) (λ e. true_false (sym (rw e at at.mark))) (λ b l e. on b (e ∙ ap (λ (x : List ℕ). b ∷ x) (sym (rw e at at.behind))))

    pub is_shorter : length rest < length w
    is_shorter = from_mark (λ b e. omega (arith, ap length (front_behind (other set) w), length-append (up_to (among set) w) (onward (among set) w), ap length e))

-- the whole, where the set is one byte
pub joined : (b : ℕ) (w front rest : List ℕ) → IsParted (b ∷ []) w front rest → w ≡ front ++ (b ∷ rest)
unfolding elem
joined b w front rest at =
    from_mark (b ∷ []) w front rest at (λ c e.
    let h = marked (among (b ∷ [])) w c rest e in
    let is : c ≡ b = either (eqb c b) false h.0 (eqb-true c b) (λ z. true_false (sym z)) in
    h.1 ∙ rw (at.before, is))

-- one stands in the list, as the library says it
has_next : (set : List ℕ) (c : ℕ) (w : List ℕ) → has set (c ∷ w) ≡ elem c set || has set w
unfolding length_in starts_in
has_next set c w = split (elem c set) (λ e. rw (length_in, e) e) (λ e. rw (length_in, e))

pub has_listed : (b : ℕ) (w : List ℕ) → list_any (λ c. eqb c b) w ≡ has (b ∷ []) w
unfolding elem length_in starts_in
has_listed b [] = refl
has_listed b (c ∷ w) = rw (has_next (b ∷ []) c w, ← has_listed b w, or-false (eqb c b))

module _ (set : List ℕ) (first second : List ℕ → Bool) (w : List ℕ) where
  -- ---- First, a byte of the set, Second

  pub parted_none : HasNone set w → false ≡ parted set first second w
  unfolding parted starts_in
  parted_none h = rw h (off (first (up_to (among set) w)))
    where
      off : (a : Bool) → false ≡ a && false && second []
      off true = refl
      off false = refl

  pub parted_on : (front rest : List ℕ) → IsParted set w front rest → first front && second rest ≡ parted set first second w
  unfolding parted
  parted_on front rest at = rw (at.before, at.behind, at.mark, and-true (first (up_to (among set) w)))

  -- ---- First, [ a byte of the set, Second ]

  pub perhaps_only : HasNone set w → first w ≡ perhaps set first second w
  unfolding perhaps
  perhaps_only h = rw (all_in_front set w h, h, and-true (first w))

  pub perhaps_on : (front rest : List ℕ) → IsParted set w front rest → first front && second rest ≡ perhaps set first second w
  unfolding perhaps
  perhaps_on front rest at =
      from_mark set w front rest at (λ b e. rw (← at.before, ← at.behind, e, ne_eqb (length (b ∷ rest)) 0 (λ z. omega (arith, z))))
