-- A law for each way out.
use Rattle.std.specs.Prelude.{Err}
use Rattle.text.proofs.Compared.{stands_inside}
use Rattle.lines.proofs.Crossing.{says_cut, says_refused, reaches}
use Rattle.lines.proofs.Ends.{line_cut, line_lf, line_crlf, line_other}
use native.Mathlib.Omega.{arith}
use mathlib.Core.Path.{ap, sym, ◌∙◌}
use Rattle.paper.specs.Bytes.{bytes}
use Rattle.lines.proofs.part.line_end.Goals as goal

pub returns-in-Some-eq10 : goal.returns-in-Some-eq10
returns-in-Some-eq10 c =
    let byte = c.in-Some-eq10.ensures.lookup.3 in
    reaches _ _ _ _ (omega arith) (line_lf _ _ _ byte.0 (sym (byte.1 0) ∙ c.in-Some-eq10.field-0-test))

pub returns-in-Some : goal.returns-in-Some
returns-in-Some c =
    let byte = c.in-Some.ensures.lookup.3 in
    let here = sym c.starts_with.ensures ∙ c.if-starts_with.true in
    reaches _ _ _ _ (omega (arith, stands_inside (bytes "\r\n") c.args.s.now c.args.at here))
    (line_crlf _ _ _ byte.0 (λ e. c.in-Some.field-0-test.1 (byte.1 0 ∙ e)) here)

pub returns-in-Some-2 : goal.returns-in-Some-2
returns-in-Some-2 c =
    let byte = c.in-Some.ensures.lookup.3 in
    says_refused _ _ _ _ _ _ _ (ap Err c.at.ensures) (omega arith)
    (line_other _ _ _ byte.0 (λ e. c.in-Some.field-0-test.1 (byte.1 0 ∙ e)) (sym c.starts_with.ensures ∙ c.if-starts_with.false))

pub returns-in-None : goal.returns-in-None
returns-in-None c = says_cut _ _ _ _ _ (ap Err c.at-in-None.ensures) (line_cut _ _ _ c.in-None.ensures.lookup.3)
