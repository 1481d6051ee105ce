-- Trees that stand before the writer: their entries in the cells, their bytes in the sheet.
-- Document 01, "Entries"; document 02, Five.
use Rattle.std.specs.Prelude.{ℕ, ◌+◌, ◌/◌, ◌≤◌, ◌<◌, ◌≡◌, Option, None, Some, List, ◌∷◌, length, drop}
use Rattle.paper.specs.declared.brackets.Bracket.{Bracket}
use Rattle.paper.specs.Values.{bracket_form, Label, label_onto, Value, value_onto, value_form}
use Rattle.paper.specs.Tree.{Trait, Concept, Body}
use Rattle.paper.specs.Grammar.{trait_onto, traits_onto, concept_onto, body_onto}
use Rattle.paper.specs.Entries.{Entry, entry_cells, items_of, value_width, label_width, item_entry, item_entries, trait_value, trait_entry, trait_entries}
use Rattle.paper.specs.Entries.{concept_size, concept_entry, inside_entries, body_entries}
use Rattle.entries.specs.Laid.{Stand, kind_at}

-- no trait and no item goes on at entry n
pub record Ends (cells : List ℕ) (n : ℕ) : Type 0 where
  pub no_trait_lem : kind_at cells n ≡ 2 → ⊥
  pub no_item : kind_at cells n ≡ 3 → ⊥

-- from entry n on stand items, up to r, where none does
pub record Past (cells : List ℕ) (n r : ℕ) : Type 0 where
  pub on : n ≤ r
  pub stops : kind_at cells r ≡ 3 → ⊥
  pub items : (j : ℕ) → n ≤ j → j < r → kind_at cells j ≡ 3

-- a walk over entries goes on from n, and further where n is one of them
pub record Ahead (cells : List ℕ) (n next : ℕ) : Type 0 where
  pub same : n ≤ next
  pub on : n < length cells / entry_cells → n < next

-- what a value of this form holds: no items, or those of a bracket
abbrev pub Holds : ℕ → Option Bracket → Type 0
Holds form None = (k : Bracket) → form ≡ bracket_form k → ⊥
Holds form (Some k) = form ≡ bracket_form k

-- the value of entry n, a trait's or an item's
pub record OfValue (s cells : List ℕ) (n : ℕ) (v : Value) : Type 0 where
  pub own : Entry
  pub after : List ℕ
  pub form : own.form ≡ value_form v
  pub count : own.count ≡ items_of v
  pub end : own.end ≡ own.start + value_width v
  pub spelt : drop own.start s ≡ value_onto v after
  pub stand : Stand cells n (own ∷ item_entries n (n + 1) own.start v)

-- the item of entry n, whose label starts at `at`
pub record OfItem (s cells : List ℕ) (n parent at : ℕ) (a : Label) (v : Value) : Type 0 where
  pub after : List ℕ
  pub spelt : drop at s ≡ label_onto a (value_onto v after)
  pub stand : Stand cells n (item_entry parent at a v ∷ item_entries n (n + 1) (at + label_width a) v)

-- the trait of entry n, whose white space starts at `at`; and traits from entry n on
pub record OfTrait (s cells : List ℕ) (n parent at : ℕ) (t : Trait) : Type 0 where
  pub after : List ℕ
  pub spelt : drop at s ≡ trait_onto t after
  pub stand : Stand cells n (trait_entry parent at t ∷ item_entries n (n + 1) (trait_value at t) t.value)

pub record OfTraits (s cells : List ℕ) (n parent at : ℕ) (ts : List Trait) : Type 0 where
  pub after : List ℕ
  pub spelt : drop at s ≡ traits_onto ts after
  pub stand : Stand cells n (trait_entries parent n at ts)

-- the Concept of entry n, whose "<" stands at `at` on a line of so many tabs; behind it stands no trait and no item
pub record OfConcept (s cells : List ℕ) (n parent at tabs : ℕ) (c : Concept) : Type 0 where
  pub after : List ℕ
  pub spelt : drop at s ≡ concept_onto tabs c after
  pub stand : Stand cells n (concept_entry parent at tabs c ∷ inside_entries n at tabs c)
  pub ends : Ends cells (n + concept_size c)

-- the elements of a children body from entry n on, whose lines start at `at`
pub record OfBody (s cells : List ℕ) (n parent at : ℕ) (body : Body) : Type 0 where
  pub after : List ℕ
  pub spelt : drop at s ≡ body_onto body after
  pub stand : Stand cells n (body_entries parent n at body)
