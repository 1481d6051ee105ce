-- Concepts and bodies call each other: a Concept that may still be opened falls with each.
-- The loop over siblings has the invariant that what is left of the body stands from entry `next` on, and counts down its elements. Assumes nothing.
use Prim.Native.Nat.{ℕ, ◌+◌, ◌*◌}
use mathlib.Core.Path.{◌≡◌}
use Rattle.paper.specs.Tree.{Body}
use Rattle.paper.specs.Entries.{body_size, body_count}
use Rattle.printing.specs.Standing.{Ends, OfBody}
use Rattle.printing.specs.Walking.{KeepsBody}
use Rattle.printing.proofs.BodyLaws.{BodyLeft}
use Rattle.printing.proofs.concepts.+put_body_put_concept.Given as goal

abbrev pub decreases-put_body : goal.decreases-put_body
decreases-put_body l = 2 * l.nesting.left + 1

abbrev pub decreases-put_concept : goal.decreases-put_concept
decreases-put_concept l = 2 * l.nesting.left

abbrev pub invariant-put_body-loop-left : goal.invariant-put_body-loop-left
invariant-put_body-loop-left l =
    (parent place : ℕ) (body : Body) → OfBody l.laid.s.now l.laid.cells.now l.n parent place body → KeepsBody l.nesting.left body
    → Ends l.laid.cells.now (l.n + body_size body) → l.elements ≡ body_count body
    → BodyLeft l.laid.s.now l.laid.cells.now l.depth l.nesting.left (l.n + body_size body) l.initial.page body l.left l.next l.between l.page

abbrev pub decreases-put_body-loop-left : goal.decreases-put_body-loop-left
decreases-put_body-loop-left l = l.left
