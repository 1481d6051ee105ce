-- What was read stands there: the names of a section are those that stand behind its count, and the sections follow one another.
-- Over plain lists. Assumes nothing.
use Prim.Native.Nat.{ℕ, zero, suc, ◌+◌, ◌≤◌, ◌<◌}
use mathlib.Core.Path.{◌≡◌, refl, ap, ◌∙◌}
use mathlib.Core.List.{List, [], ◌∷◌, ◌++◌}
use native.Mathlib.Omega.{arith}
use lib.ListN.{length, get_or, take, drop, length-drop, drop_of_length-le}
use lib.Seq.{drop-drop}
use lib.Dec.{leb, ltb}
use borrow.Author.Tests.{leb-true, ltb-true, ltb-false}
use Rattle.paper.specs.Found.{Found, found, fault, and_then}
use Rattle.paper.specs.Names.{among}
use Rattle.paper.specs.Modes.{Modes, section_limit, table_names, section, wholly, mode_table}
use Rattle.paper.proofs.Tests.{split}
use Rattle.text.proofs.Places.{here}
use Rattle.modes.specs.Table.{names_of, size_of, Whole, modes_of, Valid}
use Rattle.modes.proofs.Named.{by_name}
use Rattle.modes.proofs.Sections.{first_name, section_size}

-- what holds of a reading that found something; a fault is refusal 1
abbrev pub Good : {A : Type 0} → (A → List ℕ → Type 0) → Found A → Type 0
Good P (found a left) = P a left
Good P (fault k left) = k ≡ 1

-- ---- so many names

pub record Names (n : ℕ) (s : List ℕ) (names : List (List ℕ)) (left : List ℕ) : Type 0 where
  pub whole : Whole n s
  pub are : names ≡ names_of n s
  pub rest : left ≡ drop (size_of n s) s
  pub many : length names ≡ n

one_more : (n b : ℕ) (s : List ℕ) (x : Found (List (List ℕ))) → b ≤ length s
    → Good (Names n (drop b s)) x → Good (Names (suc n) (b ∷ s)) (and_then x (λ names rest. found (take b s ∷ names) rest))
unfolding names_of size_of
one_more n b s (fault k left) h g = g
one_more n b s (found names left) h g = record {
  whole = omega (arith, g.whole, length-drop b s);
  are = ap (λ (ns : List (List ℕ)). take b s ∷ ns) g.are;
  rest = g.rest ∙ drop-drop _ b s;
  many = ap suc g.many;
}

names_good : (n : ℕ) (before : List (List ℕ)) (s : List ℕ) → Good (Names n s) (table_names n before s)
unfolding table_names names_of size_of
names_good zero before s = record { whole = omega arith; are = refl; rest = refl; many = refl }
names_good (suc n) before [] = refl
names_good (suc n) before (b ∷ s) =
    rw (first_name n before (b ∷ s))
    (by_name b s (λ left q. rw q refl)
    (λ few f q. rw q
    (split (among before (take b s)) (λ a. rw a refl)
    (λ a. rw a (one_more n b s (table_names n (before ++ (take b s ∷ [])) (drop b s)) f (names_good n (before ++ (take b s ∷ [])) (drop b s)))))))

-- ---- a section at a place

pub record Section (t : List ℕ) (at : ℕ) (names : List (List ℕ)) (left : List ℕ) : Type 0 where
  pub inside : at < length t
  pub few : get_or t at 0 ≤ section_limit
  pub behind : Names (get_or t at 0) (drop (at + 1) t) names left

module _ (t : List ℕ) (before : List (List ℕ)) (at : ℕ) where
  within_limit : at < length t → get_or t at 0 ≤ section_limit → (x : Found (List (List ℕ))) → Good (Names (get_or t at 0) (drop (at + 1) t)) x
      → Good (Section t at) x
  within_limit h l (fault k left) g = g
  within_limit h l (found names left) g = record { inside = h; few = l; behind = g }

  counted : at < length t → Good (Section t at) (section before (get_or t at 0 ∷ drop (at + 1) t))
  unfolding section
  counted h =
      split (leb (get_or t at 0) section_limit)
      (λ l. rw (section_size before (get_or t at 0) (drop (at + 1) t) (leb-true _ _ l))
      (within_limit h (leb-true _ _ l) (table_names (get_or t at 0) before (drop (at + 1) t)) (names_good (get_or t at 0) before (drop (at + 1) t))))
      (λ l. rw (section, l) refl)

  pub section_good : Good (Section t at) (section before (drop at t))
  unfolding section
  section_good =
      split (ltb at (length t)) (λ h. rw (here t at (ltb-true at (length t) h)) (counted (ltb-true at (length t) h)))
      (λ h. rw (drop_of_length-le t (ltb-false at (length t) h)) refl)

-- ---- a whole table

-- where the second section begins
abbrev pub middle : List ℕ → ℕ
middle t = 1 + size_of (get_or t 0 0) (drop 1 t)

pub record Laid (t : List ℕ) (m : Modes) (left : List ℕ) : Type 0 where
  pub first : Section t 0 m.children (drop (middle t) t)
  pub second : Section t (middle t) m.content []
  pub whole : left ≡ []

abbrev pub with_second : List (List ℕ) → Found (List (List ℕ)) → Found Modes
with_second children x = and_then x (λ content spare. wholly (record { children = children; content = content }) spare)

second_good : (t : List ℕ) (children : List (List ℕ)) → Section t 0 children (drop (middle t) t) → (x : Found (List (List ℕ)))
    → Good (Section t (middle t)) x → Good (Laid t) (with_second children x)
unfolding wholly
second_good t children f (fault k left) g = g
second_good t children f (found content []) g = record { first = f; second = g; whole = refl }
second_good t children f (found content (b ∷ l)) g = refl

first_good : (t : List ℕ) (x : Found (List (List ℕ))) → Good (Section t 0) x
    → Good (Laid t) (and_then x (λ children left. with_second children (section children left)))
first_good t (fault k left) g = g
first_good t (found children left) g =
    let rest : left ≡ drop (middle t) t = g.behind.rest ∙ drop-drop (size_of (get_or t 0 0) (drop 1 t)) 1 t in
    rw rest (second_good t children (rw rest at g) (section children (drop (middle t) t)) (section_good t children (middle t)))

pub table_good : (t : List ℕ) → Good (Laid t) (mode_table t)
unfolding mode_table
table_good t = first_good t (section [] t) (section_good t [] 0)

pub laid : (t : List ℕ) → Valid t → Laid t (modes_of t) []
laid t v = rw v at (table_good t)
