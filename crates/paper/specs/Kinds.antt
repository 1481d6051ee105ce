-- The number of each kind of entry.
-- Document 01, "Entries".
use Rattle.std.specs.Prelude.{ℕ}
use Rattle.paper.specs.declared.kinds.Kind.{Kind}

abbrev pub number_of_kind : Kind → ℕ
number_of_kind Kind.Concept = 1
number_of_kind Kind.Trait = 2
number_of_kind Kind.Item = 3
number_of_kind Kind.Annotation = 4
number_of_kind Kind.Content = 5
