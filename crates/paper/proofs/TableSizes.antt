-- A mode table is short: its places and its count of names have bounds. Assumes nothing.
-- Document 01, "The mode table": at most 64 names in a section, each of at most 32 letters.
use Prim.Native.Nat.{ℕ, zero, suc, ◌+◌, ◌*◌, ◌≤◌}
use mathlib.Core.Bool.{not, ◌&&◌}
use mathlib.Core.List.{List, [], ◌∷◌, ◌++◌}
use native.Mathlib.Omega.{arith}
use lib.ListN.{length, take, drop, length-drop}
use lib.Dec.{leb}
use borrow.Author.Tests.{leb-true, leb-false}
use Rattle.paper.specs.Answer.{accepted, refused}
use Rattle.paper.specs.declared.Told.{Told}
use Rattle.paper.specs.Found.{Found, found, fault, and_then, place_in}
use Rattle.paper.specs.Names.{name_limit, is_concept_name, among}
use Rattle.paper.specs.Modes.{Modes, section_limit, table_names, section, wholly, mode_table, read_table}
use Rattle.paper.proofs.Tests.{split, by_range}

-- a reading of names takes at most so many bytes, and finds so many names
abbrev Takes : ℕ → ℕ → List ℕ → Found (List (List ℕ)) → Type 0
Takes most n s (found names left) = (length s ≤ length left + most) × (length names ≤ n)
Takes most n s (fault k left) = length s ≤ length left + most

names_take : (n : ℕ) (before : List (List ℕ)) (s : List ℕ) → Takes (n * 33) n s (table_names n before s)
unfolding table_names
names_take zero before s = (omega arith, omega arith)
names_take (suc n) before [] = omega arith
names_take (suc n) before (size ∷ s) =
    by_range 1 name_limit size
    (λ l h e. rw (e, table_names) (split (leb size (length s))
    (λ f. rw f (split (is_concept_name (take size s) && not (among before (take size s)))
    (λ g. rw g (more h (table_names n (before ++ (take size s ∷ [])) (drop size s)) (names_take n (before ++ (take size s ∷ [])) (drop size s))))
    (λ g. rw g (omega arith))))
    (λ f. rw f (omega (arith, leb-false size (length s) f)))))
    (λ e. rw (e, table_names) (omega arith))
  where
    more : size ≤ name_limit → (x : Found (List (List ℕ))) → Takes (n * 33) n (drop size s) x
        → Takes (suc n * 33) (suc n) (size ∷ s) (and_then x (λ names left. found (take size s ∷ names) left))
    more h (found names left) t = (omega (arith, t.0, length-drop size s), omega (arith, t.1))
    more h (fault k left) t = omega (arith, length-drop size s)

section_takes : (before : List (List ℕ)) (s : List ℕ) → Takes 2113 section_limit s (section before s)
unfolding section
section_takes before [] = omega arith
section_takes before (n ∷ s) =
    split (leb n section_limit)
    (λ e. rw (e, section) (go (leb-true n section_limit e) (table_names n before s) (names_take n before s)))
    (λ e. rw (e, section) (omega arith))
  where
    go : n ≤ section_limit → (x : Found (List (List ℕ))) → Takes (n * 33) n s x → Takes 2113 section_limit (n ∷ s) x
    go h (found names left) t = (omega (arith, t.0), omega (arith, t.1))
    go h (fault k left) t = omega arith

abbrev Small : List ℕ → Found Modes → Type 0
Small s x =
    let a : Told = elim x [ found m left ↦ accepted (length s) (length m.children + length m.content) | fault n left ↦ refused n (place_in s left) ] in
    (a.place ≤ 4226) × (a.count ≤ 128)

-- the answer of reading a table: no place is past its last possible byte, and it has at most 128 names
pub table_small : (s : List ℕ) → ((read_table s).place ≤ 4226) × ((read_table s).count ≤ 128)
unfolding read_table mode_table wholly
table_small s = first (section [] s) (section_takes [] s)
  where
    second : (children : List (List ℕ)) (left : List ℕ) → length s ≤ length left + 2113 → length children ≤ section_limit → (y : Found (List (List ℕ)))
        → Takes 2113 section_limit left y
        → Small s (and_then y (λ content spare. wholly (record { children = children; content = content }) spare))
    second children left a c (found content []) t = (omega (arith, t.0), omega (arith, t.1))
    second children left a c (found content (b ∷ spare)) t = (omega (arith, t.0), omega arith)
    second children left a c (fault k end) t = (omega arith, omega arith)

    first : (x : Found (List (List ℕ))) → Takes 2113 section_limit s x
        → Small s (and_then x (λ children left. and_then (section children left) (λ content spare. wholly (record { children = children; content = content }) spare)))
    first (found children left) t = second children left t.0 t.1 (section children left) (section_takes children left)
    first (fault k left) t = (omega arith, omega arith)
