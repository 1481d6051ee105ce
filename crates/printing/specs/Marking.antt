-- Opening markers in the canonical form, with their traits beside the name or below it.
-- Document 01, "Canonical form".
use Rattle.std.specs.Prelude.{ℕ, suc, Bool, true, false, List, ◌∷◌}
use Rattle.paper.specs.Bytes.{lf, space}
use Rattle.paper.specs.Tree.{Trait, Concept, self_closed, children, content, Ending, block, self}
use Rattle.paper.specs.Grammar.{tabs_onto}
use Rattle.paper.specs.Canonical.{TraitSense, value_sense, print_beside, print_below}

abbrev pub trait_sense : Trait → TraitSense
trait_sense t = record { name = t.name; value = value_sense t.value }

abbrev pub ending_of : Concept → Ending
ending_of (self_closed k) = self
ending_of (children k rest body back) = block
ending_of (content k rest lines) = block

abbrev pub is_self : Ending → Bool
is_self block = false
is_self self = true

-- what stands before a trait: a line of its own, one tab deeper than the marker's, or a space
abbrev pub lead_onto : Bool → ℕ → List ℕ → List ℕ
lead_onto true depth next = lf ∷ tabs_onto (suc depth) next
lead_onto false depth next = space ∷ next

-- traits below the name, or beside it
abbrev pub traits_print : Bool → ℕ → List TraitSense → List ℕ → List ℕ
traits_print true depth ts next = print_below (suc depth) ts next
traits_print false depth ts next = print_beside ts next

-- what stands before the end of a marker: a line of its own, or a space where there is one
abbrev pub break_onto : Bool → Bool → ℕ → List ℕ → List ℕ
break_onto true spaced depth next = lf ∷ tabs_onto depth next
break_onto false true depth next = space ∷ next
break_onto false false depth next = next
