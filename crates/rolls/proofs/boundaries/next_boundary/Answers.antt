use mathlib.Core.Path.{sym, ◌∙◌}
use native.Mathlib.Omega.{arith}
use Rattle.rolls.proofs.Passing.{passes_none, passes_then, no_boundary}
use Rattle.rolls.proofs.boundaries.next_boundary.Goals as goal

pub loop-i-init : goal.loop-i-init
loop-i-init c = passes_none _ _ _ (omega arith)

pub returns-then-is_boundary : goal.returns-then-is_boundary
returns-then-is_boundary c =
    record {
      passes = c.loop-i.invariant;
      begins = record { inside = c.loop-i.invariant.inside; boundary = λ h. sym c.is_boundary.ensures ∙ c.if-is_boundary.true };
    }

pub loop-i-smaller : goal.loop-i-smaller
loop-i-smaller c = let f = c.next_line-i.ensures.further c.loop-i-test.true in omega arith

pub loop-i-preserved : goal.loop-i-preserved
loop-i-preserved c =
    passes_then c.loop-i.invariant
    (no_boundary (sym c.is_boundary.ensures ∙ c.if-is_boundary.false) c.next_line-i.ensures.passes)

pub returns : goal.returns
returns c =
    record {
      passes = c.loop-i.invariant;
      begins = record { inside = c.loop-i.invariant.inside; boundary = λ h. absurd (omega arith) };
    }
