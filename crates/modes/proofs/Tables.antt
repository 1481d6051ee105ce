-- A whole table: its reading from those of its sections, and the index that is made on the way.
-- Over plain lists. Assumes nothing.
use Prim.Native.Nat.{ℕ, ◌+◌, ◌*◌, ◌≤◌, ◌<◌}
use mathlib.Core.Path.{◌≡◌, refl, sym, ap, ◌∙◌}
use mathlib.Core.List.{List, [], ◌++◌, reverse}
use native.Mathlib.Omega.{arith}
use lib.ListN.{length, get_or, drop, length-drop, drop_of_length-le}
use lib.Seq.{drop-drop}
use Rattle.std.specs.Prelude.{Result, Ok, Err}
use Rattle.paper.specs.Answer.{accepted, refused, told}
use Rattle.paper.specs.declared.Accepted.{Accepted}
use Rattle.paper.specs.declared.Refused.{Refused}
use Rattle.paper.specs.declared.Told.{Told}
use Rattle.paper.specs.Found.{Found, found, fault, and_then, place_in}
use Rattle.paper.specs.Names.{name_limit}
use Rattle.paper.specs.Modes.{Modes, section_limit, section, wholly, mode_table, read_table}
use Rattle.text.proofs.Places.{here}
use Rattle.modes.specs.Table.{names_of, size_of, Whole, told_of, modes_of}
use Rattle.modes.specs.Promises.{ReadsTable}
use Rattle.modes.specs.Index.{Lists, Empty, Due, Indexed, ReadsInto}
use Rattle.modes.proofs.Chains.{lists_none}
use Rattle.modes.proofs.Answered.{place_told, count_told, no_acceptance, told_refusal, passed_on}
use Rattle.modes.proofs.Laid.{Good, Section, section_good, with_second}

-- ---- a section that was accepted

pub record Read (t : List ℕ) (before : List (List ℕ)) (at place count : ℕ) : Type 0 where
  pub inside : place ≤ length t
  pub few : count ≤ section_limit
  pub many : length (names_of count (drop (at + 1) t)) ≡ count
  pub same : section before (drop at t) ≡ found (names_of count (drop (at + 1) t)) (drop place t)

module _ (t : List ℕ) (before : List (List ℕ)) (at place count : ℕ) where
  found_read : (names : List (List ℕ)) (left : List ℕ) → section before (drop at t) ≡ found names left → Section t at names left
      → accepted place count ≡ told_of length t (found names left) → Read t before at place count
  found_read names left q g e =
      let n : get_or t at 0 ≡ count = sym g.behind.many ∙ sym (count_told e) in
      let p : place ≡ place_in t left = place_told e in
      let are : names ≡ names_of count (drop (at + 1) t) = rw n at g.behind.are in
      let rest : left ≡ drop (at + 1 + size_of count (drop (at + 1) t)) t = rw (n, drop-drop) at g.behind.rest in
      let w : Whole count (drop (at + 1) t) = rw n at g.behind.whole in
      let ends : place ≡ at + 1 + size_of count (drop (at + 1) t)
      = omega (arith, g.inside, ap length rest, length-drop (at + 1) t, length-drop (at + 1 + size_of count (drop (at + 1) t)) t) in
      record {
        inside = omega (arith, g.inside, length-drop (at + 1) t);
        few = omega (arith, g.few);
        many = sym (ap length are) ∙ sym (count_told e);
        same = q ∙ rw (are, rest, ends);
      }

  pub section_read : accepted place count ≡ told_of length t (section before (drop at t)) → Read t before at place count
  section_read = go (section before (drop at t)) refl (section_good t before at)
    where
      go : (x : Found (List (List ℕ))) → section before (drop at t) ≡ x → Good (Section t at) x → accepted place count ≡ told_of length t x
          → Read t before at place count
      go (found names left) q g e = found_read names left q g e
      go (fault k left) q g e = no_acceptance place count _ (rw g at e)

-- ---- a table from its sections

modes_found : (t : List ℕ) (m : Modes) (left : List ℕ) → mode_table t ≡ found m left → modes_of t ≡ m
unfolding modes_of
modes_found t m left q = rw (modes_of, q)

abbrev told_table : List ℕ → Found Modes → Told
told_table t x = elim x [ found m left ↦ accepted (length t) (length m.children + length m.content) | fault k left ↦ refused k (place_in t left) ]

by_table : (t : List ℕ) → read_table t ≡ told_table t (mode_table t)
unfolding read_table
by_table t = refl

abbrev by_second : List ℕ → List (List ℕ) → Found (List (List ℕ)) → Told
by_second t children x = told_table t (with_second children x)

abbrev by_first : List ℕ → Found (List (List ℕ)) → Told
by_first t x = told_table t (and_then x (λ children left. with_second children (section children left)))

by_sections : (t : List ℕ) → read_table t ≡ by_first t (section [] t)
unfolding mode_table
by_sections t = by_table t

module _ (t : List ℕ) where
  pub first_refused : (r : Refused) → told_refusal r ≡ told_of length t (section (names_of 0 (drop 1 t)) (drop 0 t)) → told_refusal r ≡ read_table t
  unfolding names_of
  first_refused r e = rw (by_sections t) (passed_on length t (by_first t) (λ k left. refl) (section [] t) r e)

  module _ (place children : ℕ) (first : Read t (names_of 0 (drop 1 t)) 0 place children) where
    second : read_table t ≡ by_second t (names_of children (drop 1 t)) (section (names_of children (drop 1 t)) (drop place t))
    unfolding names_of
    second = rw (by_sections t, first.same)

    pub second_refused : (r : Refused) → told_refusal r ≡ told_of length t (section (names_of children (drop 1 t)) (drop place t))
        → told_refusal r ≡ read_table t
    second_refused r e =
        rw second
        (passed_on length t (by_second t (names_of children (drop 1 t))) (λ k left. refl) (section (names_of children (drop 1 t)) (drop place t)) r e)

    module _ (end content : ℕ) (rest : Read t (names_of children (drop 1 t)) place end content) where
      pub table_spare : end < length t → refused 1 end ≡ read_table t
      unfolding wholly
      table_spare h = rw (second, rest.same, here t end h) (ap (refused 1) (omega (arith, length-drop (end + 1) t)))

      pub table_done : length t ≤ end → accepted end (children + content) ≡ read_table t
      unfolding wholly
      table_done h =
          let e : end ≡ length t = omega (arith, rest.inside) in
          rw (second, rest.same, drop_of_length-le t h, first.many, rest.many, e)

      table_found : length t ≤ end
          → mode_table t ≡ found (record { children = names_of children (drop 1 t); content = names_of content (drop (place + 1) t) }) []
      unfolding mode_table wholly names_of
      table_found h = rw (first.same, rest.same, drop_of_length-le t h)

      -- the index that lists the names of both sections is the table's
      pub table_indexed : (x : List ℕ) → length t ≤ end
          → Lists t x (reverse (names_of children (drop 1 t) ++ names_of content (drop (place + 1) t))) → Indexed t x
      table_indexed x h l =
          let m = modes_found t _ [] (table_found h) in
          record { valid = rw (m, table_found h); lists = rw m l }

-- ---- the index while a table is read

pub first_due : (t x : List ℕ) → Empty x → Due t 0 0 x
unfolding names_of
first_due t x e = record { inside = omega arith; near = omega arith; few = omega arith; many = refl; lists = lists_none t x e }

pub second_due : (t x : List ℕ) (place children : ℕ) → Read t (names_of 0 (drop 1 t)) 0 place children → place ≤ 0 + 1 + (1 + name_limit) * children
    → Lists t x (reverse (names_of 0 (drop 1 t) ++ names_of children (drop (0 + 1) t))) → Due t place children x
unfolding names_of
second_due t x place children first n l = record { inside = first.inside; near = omega arith; few = first.few; many = first.many; lists = l }

-- a refusal says nothing of the index
pub into_refused : (t x : List ℕ) (r : Refused) → told_refusal r ≡ read_table t → ReadsInto t (Err r) x
into_refused t x r e = record { answer = e; indexed = λ a f. absurd (cc) }
