-- The mode of a name, from its number in the index of the table.
-- Over plain lists. Assumes nothing.
use Prim.Native.Nat.{ℕ, ◌≤◌, ◌<◌}
use mathlib.Core.Path.{◌≡◌, refl, sym, ap, subst, ◌∙◌}
use mathlib.Core.Bool.{true, false, not}
use mathlib.Core.List.{List, [], ◌∷◌, ◌++◌, flatten, append-nil, reverse, reverse-append}
use native.Mathlib.Omega.{arith}
use lib.ListN.{length, get_or, length-reverse}
use lib.Dec.{ltb}
use borrow.Author.Tests.{ltb-true, ltb-false, not-true}
use Rattle.std.specs.Prelude.{Option, None, Some}
use Rattle.paper.specs.declared.Mode.TheVariants.{Children, Content, Absent}
use Rattle.paper.specs.Bytes.{same, all}
use Rattle.paper.specs.Names.{among, distinct}
use Rattle.paper.specs.Modes.{Modes, sections, section_rule, table_rule, ValidTable, mode_of}
use Rattle.paper.proofs.Tests.{split, true_false, or_right}
use Rattle.paper.proofs.Lists.{both, same_is}
use Rattle.paper.proofs.Finds.{Finds}
use Rattle.paper.proofs.Tables.{table_read}
use Rattle.paper.proofs.Distinct.{among_on, among_either}
use Rattle.modes.specs.Table.{modes_of, Valid}
use Rattle.modes.specs.Index.{latest, named, FindsNumber, Indexed}
use Rattle.modes.proofs.Numbers.{some_numbered, none_numbered, latest_few, latest_later, latest_before, listed, unlisted, among_reverse}
use Rattle.modes.proofs.Laid.{laid}

-- ---- the paper's mode, by where the name stands

module _ (m : Modes) (w : List ℕ) where
  in_children : among m.children w ≡ true → Children ≡ mode_of m w
  unfolding mode_of
  in_children e = rw (mode_of, e)

  in_content : among m.children w ≡ false → among m.content w ≡ true → Content ≡ mode_of m w
  unfolding mode_of
  in_content e f = rw (mode_of, e, f)

  in_neither : among m.children w ≡ false → among m.content w ≡ false → Absent ≡ mode_of m w
  unfolding mode_of
  in_neither e f = rw (mode_of, e, f)

-- ---- no name stands in both sections

apart : (ms ns : List (List ℕ)) (w : List ℕ) → distinct (ms ++ ns) ≡ true → among ns w ≡ true → among ms w ≡ false
unfolding distinct among
apart [] ns w d h = refl
apart (m ∷ ms) ns w d h =
    let k = both (not (among (ms ++ ns) m)) (distinct (ms ++ ns)) d in
    split (same m w) (λ e. true_false (sym (there e) ∙ not-true _ k.0)) (λ e. among_on m w ms e ∙ apart ms ns w k.1 h)
  where
    there : same m w ≡ true → among (ms ++ ns) m ≡ true
    there e = rw (same_is m w e, among_either ms ns w) (or_right (among ms w) (among ns w) h)

all_distinct : (t : List ℕ) → Valid t → distinct ((modes_of t).children ++ (modes_of t).content) ≡ true
unfolding table_rule flatten
all_distinct t v =
    let table : ValidTable t (modes_of t) = subst (Finds (λ m left. ValidTable t m)) v (table_read t) in
    rw append-nil at (both (all section_rule (sections (modes_of t))) (distinct (flatten (sections (modes_of t)))) table.rule).1

-- ---- by the number

module _ (t x : List ℕ) (h : Indexed t x) where
  pub count_inside : 0 < length t
  count_inside = (laid t h.valid).first.inside

  module _ (w : List ℕ) where
    abbrev children : List (List ℕ)
    children = (modes_of t).children

    abbrev content : List (List ℕ)
    content = (modes_of t).content

    abbrev number : ℕ
    number = latest (named w) (reverse (children ++ content))

    number_is : number ≡ latest (named w) (reverse content ++ reverse children)
    number_is = ap (latest (named w)) (reverse-append children content)

    children_many : length (reverse children) ≡ get_or t 0 0
    children_many = length-reverse children ∙ (laid t h.valid).first.behind.many

    -- it is in the second section, or its number is one of the first
    by_section : {X : Type 0} → (get_or t 0 0 < number → among content w ≡ true → X)
        → (among content w ≡ false → number ≡ latest (named w) (reverse children) → X) → X
    by_section second first =
        split (ltb 0 (latest (named w) (reverse content)))
        (λ e. let some = ltb-true 0 (latest (named w) (reverse content)) e in second
        (omega (arith, number_is, latest_later (named w) (reverse content) (reverse children) some, children_many))
        (sym (among_reverse content w) ∙ listed w (reverse content) some))
        (λ e. let none : latest (named w) (reverse content) ≡ 0 = omega (arith, ltb-false 0 (latest (named w) (reverse content)) e) in first
        (sym (among_reverse content w) ∙ unlisted w (reverse content) none)
        (number_is ∙ latest_before (named w) (reverse content) (reverse children) none))

    pub mode_absent : FindsNumber t x w None → Absent ≡ mode_of (modes_of t) w
    mode_absent f =
        let z = none_numbered _ (f _ h.lists) in
        by_section (λ l i. absurd (omega arith))
        (λ a i. in_neither (modes_of t) w (sym (among_reverse children w) ∙ unlisted w (reverse children) (sym i ∙ z)) a)

    module _ (found : ℕ) (f : FindsNumber t x w (Some found)) where
      is : (found ≡ number) × (0 < found)
      is = some_numbered _ _ (f _ h.lists)

      pub mode_children : found ≤ get_or t 0 0 → Children ≡ mode_of (modes_of t) w
      mode_children few =
          by_section (λ l i. absurd (omega (arith, is)))
          (λ a i. in_children (modes_of t) w (sym (among_reverse children w) ∙ listed w (reverse children) (omega (arith, is, i))))

      pub mode_content : get_or t 0 0 < found → Content ≡ mode_of (modes_of t) w
      mode_content many =
          by_section (λ l i. in_content (modes_of t) w (apart children content w (all_distinct t h.valid) i) i)
          (λ a i. absurd (omega (arith, is, i, latest_few (named w) (reverse children), children_many)))
