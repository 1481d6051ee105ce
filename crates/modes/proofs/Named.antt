-- A name of the table by itself: each way out of reading it at a place, and what an acceptance says.
-- Over plain lists. Assumes nothing.
use Prim.Native.Nat.{ℕ, ◌+◌, ◌-◌, ◌≤◌, ◌<◌}
use mathlib.Core.Path.{◌≡◌, sym, ap, ◌∙◌}
use mathlib.Core.Bool.{Bool, true, false, not}
use mathlib.Core.List.{List, [], ◌∷◌}
use mathlib.Core.Logic.{◌⊎◌, ⊎_elim}
use native.Mathlib.Nat.{add-sub_cancel_left}
use native.Mathlib.Omega.{arith}
use lib.ListN.{length, get_or, take, drop, length-drop, drop_of_length-le}
use lib.Seq.{drop-drop}
use lib.Dec.{leb, ltb}
use borrow.Author.Tests.{le-leb, lt-leb, leb-true, ltb-true, ltb-false, not-true, not-false}
use Rattle.paper.specs.Answer.{accepted, refused}
use Rattle.paper.specs.Found.{found, fault, place_in}
use Rattle.paper.specs.Bytes.{within}
use Rattle.paper.specs.Names.{name_limit, is_concept_name}
use Rattle.paper.proofs.Tests.{split, inside, below, above, in_range}
use Rattle.text.proofs.Places.{here, place_back}
use Rattle.modes.specs.Table.{name_at, one, told_of}
use Rattle.modes.proofs.Answered.{place_told, no_acceptance}

-- ---- the tests of a name, one after another

module _ (size : ℕ) (s : List ℕ) where
  bad_size : within 1 name_limit size ≡ false → name_at (size ∷ s) ≡ fault 1 (size ∷ s)
  unfolding name_at
  bad_size e = rw (name_at, e)

  module _ (w : within 1 name_limit size ≡ true) where
    missing : leb size (length s) ≡ false → name_at (size ∷ s) ≡ fault 1 []
    unfolding name_at
    missing e = rw (name_at, w, e)

    module _ (f : leb size (length s) ≡ true) where
      broken : is_concept_name (take size s) ≡ false → name_at (size ∷ s) ≡ fault 1 s
      unfolding name_at
      broken e = rw (name_at, w, f, e)

      good : is_concept_name (take size s) ≡ true → name_at (size ∷ s) ≡ found (take size s) (drop size s)
      unfolding name_at
      good e = rw (name_at, w, f, e)

-- a name has a fault, or is whole and found
pub by_name : {X : Type 0} (size : ℕ) (s : List ℕ) → ((left : List ℕ) → name_at (size ∷ s) ≡ fault 1 left → X)
    → (size ≤ name_limit → size ≤ length s → name_at (size ∷ s) ≡ found (take size s) (drop size s) → X) → X
by_name size s bad fine =
    split (within 1 name_limit size)
    (λ w. split (leb size (length s))
    (λ f. split (is_concept_name (take size s)) (λ g. fine (in_range 1 name_limit size w).1 (leb-true size (length s) f) (good size s w f g)) (λ g. bad s (broken size s w f g)))
    (λ f. bad [] (missing size s w f)))
    (λ w. bad (size ∷ s) (bad_size size s w))

out_of_range : (size : ℕ) → (size ≡ 0) ⊎ (name_limit < size) → within 1 name_limit size ≡ false
out_of_range size e = ⊎_elim (λ z. below 1 name_limit size (omega arith)) (above 1 name_limit size) e

of_range : (size : ℕ) → (size ≡ 0 → ⊥) → size ≤ name_limit → within 1 name_limit size ≡ true
of_range size some few = inside 1 name_limit size (omega arith) few

-- ---- at a place of the table, with what code leaves of the tests

pub name_cut : (t : List ℕ) (at : ℕ) → at ≡ length t → refused 1 at ≡ told_of one t (name_at (drop at t))
unfolding name_at
name_cut t at e = let l : length t ≤ at = omega arith in rw (drop_of_length-le t l) (ap (refused 1) (omega arith))

module _ (t : List ℕ) (at : ℕ) (h : at < length t) (size : ℕ) (is : size ≡ get_or t at 0) where
  pub name_size : (size ≡ 0) ⊎ (name_limit < size) → refused 1 at ≡ told_of one t (name_at (drop at t))
  name_size e =
      rw (here t at h, ← is, bad_size size (drop (at + 1) t) (out_of_range size e))
      (ap (refused 1) (omega (arith, length-drop (at + 1) t)))

  module _ (some : size ≡ 0 → ⊥) (few : size ≤ name_limit) where
    pub name_short : length t - (at + 1) < size → refused 1 (length t) ≡ told_of one t (name_at (drop at t))
    name_short l =
        let over = lt-leb size (length (drop (at + 1) t)) (omega (arith, length-drop (at + 1) t)) in
        rw (here t at h, ← is, missing size (drop (at + 1) t) (of_range size some few) over) (ap (refused 1) (omega arith))

    module _ (fit : size ≤ length t - (at + 1)) (o : Bool) (e : o ≡ is_concept_name (take (at + 1 + size - (at + 1)) (drop (at + 1) t))) where
      ruled : is_concept_name (take size (drop (at + 1) t)) ≡ o
      ruled = sym (rw add-sub_cancel_left at e)

      there : leb size (length (drop (at + 1) t)) ≡ true
      there = le-leb size (length (drop (at + 1) t)) (omega (arith, length-drop (at + 1) t))

      pub name_broken : not o ≡ true → refused 1 (at + 1) ≡ told_of one t (name_at (drop at t))
      name_broken n =
          rw (here t at h, ← is, broken size (drop (at + 1) t) (of_range size some few) there (ruled ∙ not-true o n))
          (ap (refused 1) (sym (place_back t (at + 1) (omega arith))))

      pub name_good : not o ≡ false → accepted (at + 1 + size) 1 ≡ told_of one t (name_at (drop at t))
      name_good n =
          rw (here t at h, ← is, good size (drop (at + 1) t) (of_range size some few) there (ruled ∙ not-false o n), drop-drop)
          (ap (λ (p : ℕ). accepted p 1) (sym (place_back t (at + 1 + size) (omega arith))))

-- ---- what an acceptance says

-- the name at the place, read up to its end
pub record Named (t : List ℕ) (at end : ℕ) : Type 0 where
  pub inside : at < length t
  pub short : get_or t at 0 ≤ name_limit
  pub ends : end ≡ at + 1 + get_or t at 0
  pub fits : end ≤ length t
  pub same : name_at (drop at t) ≡ found (take (get_or t at 0) (drop (at + 1) t)) (drop end t)

module _ (t : List ℕ) (end many size : ℕ) (s : List ℕ) where
  accepting : accepted end many ≡ told_of one t (name_at (size ∷ s))
      → (size ≤ length s) × (end ≡ place_in t (drop size s)) × (name_at (size ∷ s) ≡ found (take size s) (drop size s)) × (size ≤ name_limit)
  accepting e = by_name size s (λ left q. no_acceptance end many _ (rw q at e)) (λ l f g. (f, place_told (rw g at e), g, l))

module _ (t : List ℕ) (at end many : ℕ) where
  read_inside : at < length t → accepted end many ≡ told_of one t (name_at (drop at t)) → Named t at end
  read_inside h e =
      let r = accepting t end many (get_or t at 0) (drop (at + 1) t) (rw (here t at h) at e) in
      let q : end ≡ at + 1 + get_or t at 0 = omega (arith, r.0, r.1, length-drop (at + 1) t, length-drop (get_or t at 0) (drop (at + 1) t)) in
      record { inside = h; short = r.3; ends = q; fits = omega (arith, r.0, length-drop (at + 1) t); same = rw (here t at h, r.2, drop-drop, q) }

  pub named : accepted end many ≡ told_of one t (name_at (drop at t)) → Named t at end
  unfolding name_at
  named e =
      split (ltb at (length t)) (λ l. read_inside (ltb-true at (length t) l) e)
      (λ l. no_acceptance end many _ (rw (drop_of_length-le t (ltb-false at (length t) l)) at e))
