use native.Mathlib.Omega.{arith}
use mathlib.Core.Path.{ap, refl}
use Rattle.text.proofs.Answers.{passes}
use Rattle.std.specs.Prelude.{Ok}
use Rattle.lines.specs.Parts.{entryless}
use Rattle.lines.proofs.Ends.{RestAt, rest_at}
use Rattle.lines.proofs.Blanks.{lines_begin, lines_refused, lines_on, lines_over}
use Rattle.lines.proofs.blank.blank_lines.Goals as goal

pub loop-i-init : goal.loop-i-init
loop-i-init c = lines_begin _ _ (omega arith)

pub returns-in_err-i : goal.returns-in_err-i
returns-in_err-i c =
    lines_refused _ _ _ c.loop-i.invariant _ c.is_blank_line.ensures
    c.loop-i-test.true _ _ c.in_err-i.ensures (ap entryless (passes c.from_residual.ensures.1))

-- the blank line of this turn
line : (c : goal.In_ok-i) → RestAt c.args.s.now c.loop-i.i c.in_ok-i.i
line c = rest_at _ _ (Ok _) _ c.loop-i.invariant.inside c.in_ok-i.ensures refl

pub loop-i-smaller : goal.loop-i-smaller
loop-i-smaller c = let l = line c in omega arith

pub loop-i-preserved : goal.loop-i-preserved
loop-i-preserved c =
    lines_on _ _ _ c.loop-i.invariant _ c.is_blank_line.ensures
    c.loop-i-test.true _ (line c)

pub returns : goal.returns
returns c = lines_over _ _ _ c.loop-i.invariant _ c.is_blank_line.ensures c.loop-i-test.false
