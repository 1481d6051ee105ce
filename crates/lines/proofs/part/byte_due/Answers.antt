-- A law for each way out.
use Rattle.std.specs.Prelude.{Err}
use Rattle.lines.proofs.Crossing.{says_cut, says_refused, reaches}
use Rattle.lines.proofs.Ends.{due_cut, due_other, due_here}
use native.Mathlib.Omega.{arith}
use mathlib.Core.Path.{ap, sym, ◌∙◌}
use Rattle.lines.proofs.part.byte_due.Goals as goal

pub returns-in-Some : goal.returns-in-Some
returns-in-Some c =
    let byte = c.in-Some.ensures.lookup.3 in
    reaches _ _ _ _ (omega arith) (due_here _ _ _ byte.0 (sym (byte.1 0) ∙ c.if-c-b.true))

pub returns-in-Some-2 : goal.returns-in-Some-2
returns-in-Some-2 c =
    let byte = c.in-Some.ensures.lookup.3 in
    says_refused _ _ _ _ _ _ _ (ap Err c.at.ensures) (omega arith) (due_other _ _ _ byte.0 (λ e. c.if-c-b.false (byte.1 0 ∙ e)))

pub returns-in-None : goal.returns-in-None
returns-in-None c = says_cut _ _ _ _ _ (ap Err c.at-in-None.ensures) (due_cut _ _ _ c.in-None.ensures.lookup.3)
