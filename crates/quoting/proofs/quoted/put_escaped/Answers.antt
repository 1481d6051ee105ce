-- By the definition's cases, in its order. Assumes nothing.
use mathlib.Core.Path.{sym, ◌∙◌}
use mathlib.Core.List.{◌∷◌}
use native.Mathlib.Omega.{arith}
use borrow.Author.Tests.{ne_eqb}
use Rattle.quoting.proofs.Putting.{puts_as, puts_then}
use Rattle.quoting.proofs.Spelling.{byte_marked, byte_lf, byte_cr, byte_tab, byte_control, byte_direct}
use Rattle.quoting.proofs.quoted.put_escaped.Goals as goal

pub returns-then-is_marked : goal.returns-then-is_marked
returns-then-is_marked c =
    puts_as _ (λ next. byte_marked c.args.quote c.args.b next (sym c.is_marked.ensures ∙ c.if-is_marked.true))
    (puts_then (λ next. 92 ∷ next) (λ next. c.args.b ∷ next) c.put_byte.ensures c.put_byte-then-is_marked.ensures)

pub returns-in-10 : goal.returns-in-10
returns-in-10 c = puts_as _ (λ next. byte_lf c.args.quote c.args.b next (sym c.is_marked.ensures ∙ c.if-is_marked.false) c.in-10.is) c.put.ensures

pub returns-in-13 : goal.returns-in-13
returns-in-13 c =
    puts_as _ (λ next. byte_cr c.args.quote c.args.b next (sym c.is_marked.ensures ∙ c.if-is_marked.false) (ne_eqb c.args.b 10 (omega arith)) c.in-13.is)
    c.put-in-13.ensures

pub returns-in-9 : goal.returns-in-9
returns-in-9 c =
    puts_as _ (λ next. byte_tab c.args.quote c.args.b next (sym c.is_marked.ensures ∙ c.if-is_marked.false) (ne_eqb c.args.b 10 (omega arith))
    (ne_eqb c.args.b 13 (omega arith)) c.in-9.is)
    c.put-in-9.ensures

pub returns-then-is_control : goal.returns-then-is_control
returns-then-is_control c =
    puts_as _ (λ next. byte_control c.args.quote c.args.b next (sym c.is_marked.ensures ∙ c.if-is_marked.false) (ne_eqb c.args.b 10 (omega arith))
    (ne_eqb c.args.b 13 (omega arith)) (ne_eqb c.args.b 9 (omega arith)) (sym c.is_control.ensures ∙ c.if-is_control.true)) c.put_control.ensures

pub returns-else-is_control : goal.returns-else-is_control
returns-else-is_control c =
    puts_as _ (λ next. byte_direct c.args.quote c.args.b next (sym c.is_marked.ensures ∙ c.if-is_marked.false) (ne_eqb c.args.b 10 (omega arith))
    (ne_eqb c.args.b 13 (omega arith)) (ne_eqb c.args.b 9 (omega arith)) (sym c.is_control.ensures ∙ c.if-is_control.false)) c.put_byte-else-is_control.ensures
