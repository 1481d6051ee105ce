use mathlib.Core.Path.{ap}
use Rattle.text.proofs.Answers.{passes}
use Rattle.lines.specs.Parts.{entryless}
use Rattle.lines.proofs.ReadAt.{due_begin, due_over, due_refused, due_on}
use Rattle.lines.proofs.part.bytes_due.Goals as goal

pub loop-b-init : goal.loop-b-init
loop-b-init c = due_begin _ _ _ c.requires

pub returns-in_err-place : goal.returns-in_err-place
returns-in_err-place c =
    due_refused _ _ _ _ _ c.loop-b.invariant c.loop-b-test.true _ _ c.in_err-place.ensures (ap entryless (passes c.from_residual.ensures.1))

pub loop-b-preserved : goal.loop-b-preserved
loop-b-preserved c = due_on _ _ _ _ _ c.loop-b.invariant c.loop-b-test.true _ c.in_ok-place.ensures

pub returns : goal.returns
returns c = due_over _ _ _ _ _ c.loop-b.invariant c.loop-b-test.false
