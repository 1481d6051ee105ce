use mathlib.Core.Path.{refl, sym, ap, ◌∙◌}
use Rattle.std.specs.Prelude.{Err}
use Rattle.text.proofs.Checks.{check_mark, check_start, check_out}
use Rattle.text.proofs.utf8.check.Goals as goal

pub returns-then-starts_with : goal.returns-then-starts_with
returns-then-starts_with c = ap Err c.at.ensures ∙ check_mark _ (sym c.starts_with.ensures ∙ c.if-starts_with.true)

pub loop-i-init : goal.loop-i-init
loop-i-init c =
    let p = c.skip_plain-i.ensures in
    (p.1, p.2 ∙ check_start _ _ refl (sym c.starts_with.ensures ∙ c.if-starts_with.false))

pub returns : goal.returns
returns c = check_out _ _ c.loop-i-test.false ∙ c.loop-i.invariant.1
