-- A mode table is accepted exactly when modes that keep the rule yield its bytes; they are the only ones, and their names are counted. Assumes nothing.
-- Document 01, "The mode table".
use Prim.Native.Nat.{ℕ, zero, suc, ◌≤◌}
use mathlib.Core.Path.{◌≡◌, refl, sym, ap, subst, ◌∙◌}
use mathlib.Core.Bool.{true, not, ◌&&◌}
use mathlib.Core.List.{List, [], ◌∷◌, ◌++◌, flatten, append-nil, append_assoc}
use mathlib.Core.Logic.{◌⊎◌, inl, inr, ◌↔◌}
use native.Mathlib.Omega.{arith}
use lib.ListN.{length, take, drop, length-append, take-append-drop}
use lib.Seq.{take-append_seam, drop-append_seam, length-take-le}
use lib.Dec.{leb}
use borrow.Author.Tests.{leb-true, le-leb, not-true}
use Rattle.paper.specs.Answer.{accepted, refused}
use Rattle.paper.specs.Found.{Found, found, fault, place_in}
use Rattle.paper.specs.Bytes.{is_upper, within, all}
use Rattle.paper.specs.Names.{name_limit, name_rule, is_name, is_concept_name, among, distinct}
use Rattle.paper.specs.Modes.{Modes, section_limit, sections, names_onto, sections_onto, table_onto, section_rule, table_rule, ValidTable}
use Rattle.paper.specs.Modes.{table_names, section, wholly, mode_table, read_table}
use Rattle.paper.proofs.Tests.{split, inside}
use Rattle.paper.proofs.Lists.{both, and}
use Rattle.paper.proofs.Finds.{Finds, finds_then}
use Rattle.paper.proofs.Lines.{rule_name}
use Rattle.paper.proofs.Distinct.{distinct_more, distinct_apart}
use Rattle.paper.proofs.Before.{Only, table_only}

-- ---- names

-- what is read: so many names that stood in front, by the rule, and distinct from one another and from those before if these are
record ReadNames (n : ℕ) (before : List (List ℕ)) (s : List ℕ) (names : List (List ℕ)) (left : List ℕ) : Type 0 where
  many : length names ≡ n
  covers : s ≡ names_onto names left
  rule : all is_concept_name names ≡ true
  apart : distinct before ≡ true → distinct (before ++ names) ≡ true

names_read : (n : ℕ) (before : List (List ℕ)) (s : List ℕ) → Finds (ReadNames n before s) (table_names n before s)
unfolding table_names names_onto all
names_read zero before s = record { many = refl; covers = refl; rule = refl; apart = λ d. rw append-nil d }
names_read (suc n) before [] = tt
names_read (suc n) before (size ∷ s) =
    let w = take size s in
    let others = table_names n (before ++ (w ∷ [])) (drop size s) in
    split (within 1 name_limit size)
    (λ a. split (leb size (length s))
    (λ b. split (is_concept_name w && not (among before w))
    (λ c. rw (a, table_names, b, c) (finds_then _ _ _ others (names_read n (before ++ (w ∷ [])) (drop size s)) (first (leb-true size (length s) b) c)))
    (λ c. rw (a, table_names, b, c) tt))
    (λ b. rw (a, table_names, b) tt))
    (λ a. rw (a, table_names) tt)
  where
    first : size ≤ length s → is_concept_name (take size s) && not (among before (take size s)) ≡ true
        → (names : List (List ℕ)) (left : List ℕ) → ReadNames n (before ++ (take size s ∷ [])) (drop size s) names left
        → ReadNames (suc n) before (size ∷ s) (take size s ∷ names) left
    first l c names left r =
        let w = take size s in
        let h = both (is_concept_name w) (not (among before w)) c in
        record {
          many = ap suc r.many;
          covers = rw (length-take-le size s l) (ap (λ (x : List ℕ). size ∷ x) (sym (take-append-drop size s) ∙ ap (λ (x : List ℕ). w ++ x) r.covers));
          rule = and h.0 r.rule;
          apart = λ d. rw append_assoc at (r.apart (distinct_more before w d (not-true _ h.1)));
        }

-- such a name has 1 to 32 bytes
name_size : (w : List ℕ) → is_concept_name w ≡ true → (1 ≤ length w) × (length w ≤ name_limit)
unfolding is_name
name_size w r =
    let k = both (name_rule is_upper w) (leb (length w) name_limit) r in
    ((rule_name is_upper w k.0).1, leb-true (length w) name_limit k.1)

-- names by the rule, which stand among distinct ones, are read
names_back : (before names others : List (List ℕ)) (next : List ℕ) → all is_concept_name names ≡ true → distinct (before ++ (names ++ others)) ≡ true
    → table_names (length names) before (names_onto names next) ≡ found names next
unfolding table_names names_onto all
names_back before [] others next r d = refl
names_back before (w ∷ names) others next r d =
    let h = both (is_concept_name w) (all is_concept_name names) r in
    let k = name_size w h.0 in
    let rest = names_onto names next in
    let seam = take-append_seam w rest in
    rw (
      inside 1 name_limit (length w) k.0 k.1,
      table_names,
      le-leb (length w) (length (w ++ rest)) (omega (arith, length-append w rest)),
      seam,
      h.0,
      distinct_apart before w (names ++ others) d,
      seam,
      drop-append_seam w rest,
      names_back (before ++ (w ∷ [])) names others next h.1 (rw append_assoc d),
    )

-- ---- sections

record ReadSection (before : List (List ℕ)) (s : List ℕ) (names : List (List ℕ)) (left : List ℕ) : Type 0 where
  covers : s ≡ length names ∷ names_onto names left
  rule : section_rule names ≡ true
  apart : distinct before ≡ true → distinct (before ++ names) ≡ true

section_read : (before : List (List ℕ)) (s : List ℕ) → Finds (ReadSection before s) (section before s)
unfolding section section_rule
section_read before [] = tt
section_read before (n ∷ s) =
    split (leb n section_limit)
    (λ a. rw (a, section) (go a (table_names n before s) (names_read n before s)))
    (λ a. rw (a, section) tt)
  where
    go : leb n section_limit ≡ true → (x : Found (List (List ℕ))) → Finds (ReadNames n before s) x → Finds (ReadSection before (n ∷ s)) x
    go a (found names left) r =
        let few : leb (length names) section_limit ≡ true = rw r.many a in
        record { covers = rw r.many (ap (λ (x : List ℕ). n ∷ x) r.covers); rule = and few r.rule; apart = r.apart }
    go a (fault k left) r = tt

section_back : (before names others : List (List ℕ)) (next : List ℕ) → section_rule names ≡ true → distinct (before ++ (names ++ others)) ≡ true
    → section before (length names ∷ names_onto names next) ≡ found names next
unfolding section section_rule
section_back before names others next r d =
    let h = both (leb (length names) section_limit) (all is_concept_name names) r in
    rw (h.0, section) (names_back before names others next h.1 d)

-- ---- a whole table

-- whatever is read is a valid table's modes
pub table_read : (table : List ℕ) → Finds (λ m left. ValidTable table m) (mode_table table)
unfolding mode_table wholly table_onto sections_onto table_rule flatten all distinct
table_read table =
    finds_then _ _ _ (section [] table) (section_read [] table)
    (λ children mid a. finds_then _ _ _ (section children mid) (section_read children mid)
    (λ content left b. last children mid content left a b))
  where
    last : (children : List (List ℕ)) (mid : List ℕ) (content : List (List ℕ)) (left : List ℕ)
        → ReadSection [] table children mid → ReadSection children mid content left
        → Finds (λ m left. ValidTable table m) (wholly (record { children = children; content = content }) left)
    last children mid content (b ∷ left) p q = tt
    last children mid content [] p q =
        record {
          covers = ap (λ (x : List ℕ). length children ∷ names_onto children x) (sym q.covers) ∙ sym p.covers;
          rule = and (and p.rule (and q.rule refl)) (rw append-nil (q.apart (p.apart refl)));
        }

-- and a valid table is read
pub table_back : (table : List ℕ) (m : Modes) → ValidTable table m → mode_table table ≡ found m []
unfolding mode_table wholly table_onto sections_onto table_rule flatten all
table_back table m v =
    let h = both (all section_rule (sections m)) (distinct (flatten (sections m))) v.rule in
    let k = both (section_rule m.children) _ h.0 in
    let l = both (section_rule m.content) _ k.1 in
    rw (
      ← v.covers,
      section_back [] m.children (m.content ++ []) (length m.content ∷ names_onto m.content []) k.0 h.1,
      section_back m.children m.content [] [] l.0 h.1,
    )

-- the reader accepts exactly the valid tables, with their modes
pub table_exactly : (table : List ℕ) (m : Modes) → (mode_table table ≡ found m []) ↔ ValidTable table m
table_exactly table m = (λ e. subst (Finds (λ m left. ValidTable table m)) e (table_read table), table_back table m)

-- a table has one meaning: its modes are the only ones
pub modes_only : (table : List ℕ) (m n : Modes) → ValidTable table m → ValidTable table n → m ≡ n
modes_only table m n v w =
    let e : found m [] ≡ found n [] = sym (table_back table m v) ∙ table_back table n w in
    cc

-- ---- the answer

-- an acceptance counts the names of all sections
pub record AcceptedTable (table : List ℕ) : Type 0 where
  pub modes : Modes
  pub valid : ValidTable table modes
  pub is : read_table table ≡ accepted (length table) (length (flatten (sections modes)))

-- a refusal is a 1 at a place of the table, and no modes are this table's
pub record RefusedTable (table : List ℕ) : Type 0 where
  pub place : ℕ
  pub is : read_table table ≡ refused 1 place
  pub inside : place ≤ length table
  pub invalid : (m : Modes) → ValidTable table m → ⊥

pub valid_answer : (table : List ℕ) (m : Modes) → ValidTable table m → read_table table ≡ accepted (length table) (length (flatten (sections m)))
unfolding read_table flatten
valid_answer table m v = rw (table_back table m v, read_table, append-nil) (ap (accepted (length table)) (sym (length-append m.children m.content)))

-- a fault says that no modes are the table's, and where
pub table_invalid : (table : List ℕ) (n : ℕ) (left : List ℕ) → mode_table table ≡ fault n left → (m : Modes) → ValidTable table m → ⊥
table_invalid table n left e m v =
    let z : fault n left ≡ found m [] = sym e ∙ table_back table m v in
    let no : ◌≡◌ {A = ℕ} 0 1 = cc in
    omega arith

pub fault_answer : (table : List ℕ) (n : ℕ) (left : List ℕ) → mode_table table ≡ fault n left → read_table table ≡ refused 1 (place_in table left)
unfolding read_table
fault_answer table n left e = rw (e, read_table) (ap (λ (k : ℕ). refused k (place_in table left)) (subst (Only 1 table) e (table_only table)).0)

pub table_answers : (table : List ℕ) → AcceptedTable table ⊎ RefusedTable table
table_answers table = go (mode_table table) refl (table_read table)
  where
    go : (x : Found Modes) → mode_table table ≡ x → Finds (λ m left. ValidTable table m) x → AcceptedTable table ⊎ RefusedTable table
    go (found m left) e v = inl (record { modes = m; valid = v; is = valid_answer table m v })
    go (fault n left) e v =
        inr (record { place = place_in table left; is = fault_answer table n left e; inside = omega arith; invalid = table_invalid table n left e })
