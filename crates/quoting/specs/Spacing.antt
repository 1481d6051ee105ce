-- White space that is collapsed: what stands before a byte, and what is put before it.
-- Document 01, "Canonical form": space and tab runs become one space, ends trimmed.
use Rattle.std.specs.Prelude.{List, ℕ, ◌∷◌}
use Rattle.paper.specs.Bytes.{space}
use Rattle.quoting.specs.declared.spaced.Spacing.{Spacing}
use Rattle.quoting.specs.declared.spaced.Spacing.TheVariants.{Start, Word, Gap}

-- behind a byte of white space more
abbrev pub widened : Spacing → Spacing
widened Start = Start
widened Word = Gap
widened Gap = Gap

-- before a word that goes on or begins
abbrev pub gap_onto : Spacing → List ℕ → List ℕ
gap_onto Start next = next
gap_onto Word next = next
gap_onto Gap next = space ∷ next
