-- The invariant: which traits are left, and whether the last one before them ends in "/".
-- The measure is how many entries are left in the cells. Assumes nothing.
use Prim.Native.Nat.{ℕ, ◌+◌, ◌-◌, ◌/◌, ◌≤◌}
use mathlib.Core.List.{List}
use mathlib.Core.Bool.{true}
use mathlib.Core.Path.{◌≡◌}
use lib.ListN.{length}
use Rattle.paper.specs.Entries.{entry_cells, traits_size}
use Rattle.paper.specs.Limits.{bracket_limit, trait_fits}
use Rattle.paper.specs.Grammar.{trait_rule}
use Rattle.paper.specs.Tree.{Trait}
use Rattle.paper.specs.Names.{name_limit}
use Rattle.paper.specs.Bytes.{all}
use Rattle.printing.specs.Standing.{Ends, OfTraits}
use Rattle.printing.proofs.Marking.{Left}
use Rattle.printing.proofs.markers.put_traits.Given as goal

abbrev pub invariant-loop-slash : goal.invariant-loop-slash
invariant-loop-slash l = (l.n ≤ l.next) ×
    ((parent place : ℕ) (ts : List Trait) → OfTraits l.laid.s.now l.laid.cells.now l.n parent place ts
    → Ends l.laid.cells.now (l.n + traits_size ts) → all trait_rule ts ≡ true → all (trait_fits name_limit bracket_limit) ts ≡ true
    → Left l.laid.s.now l.laid.cells.now l.n ts l.below l.depth l.initial.page l.next l.slash l.page)

abbrev pub decreases-loop-slash : goal.decreases-loop-slash
decreases-loop-slash l = length l.laid.cells.now / entry_cells - l.next
