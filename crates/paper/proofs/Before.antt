-- The faults that come before the grammar's: those of a table are 1, those of bytes are 3, each at a place of its list. Assumes nothing.
use Prim.Native.Nat.{ℕ, zero, suc}
use mathlib.Core.Path.{◌≡◌, refl}
use mathlib.Core.Bool.{not, ◌&&◌}
use mathlib.Core.List.{List, [], ◌∷◌, ◌++◌}
use lib.ListN.{length, take, drop}
use lib.Dec.{leb}
use Rattle.paper.specs.Found.{Found, found, fault, and_then}
use Rattle.paper.specs.Bytes.{within, starts_with, scalars, encode, byte_order_mark, sheet_bytes}
use Rattle.paper.specs.Names.{name_limit, is_concept_name, among}
use Rattle.paper.specs.Modes.{section_limit, Modes, table_names, section, wholly, mode_table}
use Rattle.paper.proofs.Tests.{split}
use Rattle.paper.proofs.Finds.{Tail, whole, past, tail_then, tail_append, tail_drop, tail_end}
use Rattle.paper.proofs.Scalars.{by_first, scalars_broken, scalars_stop, scalars_on, scalar_sound}

-- every fault has this number and is at a place of the list, which is left by what is found too
abbrev pub Only : {A : Type 0} → ℕ → List ℕ → Found A → Type 0
Only k s (found a left) = Tail s left
Only k s (fault n left) = (n ≡ k) × Tail s left

pub only_then : {A B : Type 0} (k : ℕ) (s : List ℕ) (x : Found A) (next : A → List ℕ → Found B) → Only k s x
    → ((a : A) (left : List ℕ) → Tail s left → Only k s (next a left)) → Only k s (and_then x next)
only_then k s (found a left) next h f = f a left h
only_then k s (fault n left) next h f = h

only_in : {A : Type 0} (k : ℕ) {s left : List ℕ} (x : Found A) → Tail s left → Only k left x → Only k s x
only_in k (found a end) t h = tail_then t h
only_in k (fault n end) t h = (h.0, tail_then t h.1)

-- ---- the mode table

names_only : (n : ℕ) (before : List (List ℕ)) (s : List ℕ) → Only 1 s (table_names n before s)
unfolding table_names
names_only zero before s = whole
names_only (suc n) before [] = (refl, whole)
names_only (suc n) before (size ∷ s) =
    split (within 1 name_limit size)
    (λ a. split (leb size (length s))
    (λ b. split (is_concept_name (take size s) && not (among before (take size s)))
    (λ c. rw (
      a,
      table_names,
      b,
      c,
    ) (only_then 1 (size ∷ s) (table_names n (before ++ (take size s ∷ [])) (drop size s)) _
    (only_in 1 (table_names n (before ++ (take size s ∷ [])) (drop size s)) (past (tail_drop size s)) (names_only n (before ++ (take size s ∷ [])) (drop size s)))
    (λ names left t. t)))
    (λ c. rw (a, table_names, b, c) (refl, past whole)))
    (λ b. rw (a, table_names, b) (refl, tail_end (size ∷ s))))
    (λ a. rw (a, table_names) (refl, whole))

section_only : (before : List (List ℕ)) (s : List ℕ) → Only 1 s (section before s)
unfolding section
section_only before [] = (refl, whole)
section_only before (n ∷ s) =
    split (leb n section_limit) (λ a. rw (a, section) (only_in 1 (table_names n before s) (past whole) (names_only n before s))) (λ a. rw (a, section) (refl, whole))

wholly_only : (m : Modes) (s : List ℕ) → Only 1 s (wholly m s)
unfolding wholly
wholly_only m [] = whole
wholly_only m (b ∷ s) = (refl, whole)

pub table_only : (s : List ℕ) → Only 1 s (mode_table s)
unfolding mode_table
table_only s =
    only_then 1 s (section [] s) _ (section_only [] s)
    (λ children left t. only_then 1 s (section children left) _ (only_in 1 (section children left) t (section_only children left))
    (λ content spare u. only_in 1 (wholly (record { children = children; content = content }) spare) u (wholly_only (record {
      children = children;
      content = content;
    }) spare)))

-- a whole table leaves nothing
pub table_whole : (s : List ℕ) (m : Modes) (left : List ℕ) → mode_table s ≡ found m left → left ≡ []
unfolding mode_table wholly
table_whole s m left e = go (section [] s) e
  where
    last : (n : Modes) (spare : List ℕ) → wholly n spare ≡ found m left → left ≡ []
    last n [] e = cc
    last n (b ∷ l) e = cc

    second : (children : List (List ℕ)) (x : Found (List (List ℕ)))
        → and_then x (λ content spare. wholly (record { children = children; content = content }) spare) ≡ found m left → left ≡ []
    second children (found content spare) e = last (record { children = children; content = content }) spare e
    second children (fault n r) e = cc

    go : (x : Found (List (List ℕ)))
        → and_then x (λ children left. and_then (section children left) (λ content spare. wholly (record { children = children; content = content }) spare)) ≡ found m left
        → left ≡ []
    go (found children r) e = second children (section children r) e
    go (fault n r) e = cc

-- ---- the bytes of a sheet

scalars_only : (fuel : ℕ) (s : List ℕ) → Only 3 s (scalars fuel s)
unfolding scalars
scalars_only zero s = whole
scalars_only (suc fuel) [] = whole
scalars_only (suc fuel) (b ∷ l) =
    by_first b l
    (λ n r e. rw (scalars_broken fuel b l n r e) (refl, whole))
    (λ v r e m. rw (scalars_stop fuel b l v r e m) (refl, whole))
    (λ v r e m. rw (scalars_on fuel b l v r e m) (only_then 3 (b ∷ l) (scalars fuel r) _
    (only_in 3 (scalars fuel r) (rw (scalar_sound (b ∷ l) v r e).whole (tail_append (encode v) r)) (scalars_only fuel r)) (λ vs left t. t)))

pub bytes_only : (s : List ℕ) → Only 3 s (sheet_bytes s)
unfolding sheet_bytes
bytes_only s = split (starts_with byte_order_mark s) (λ m. rw (m, sheet_bytes) (refl, whole)) (λ m. rw (m, sheet_bytes) (scalars_only (length s) s))
