-- Each answer of the step is a law of the check. Assumes nothing.
use mathlib.Core.Path.{sym, ap, ◌∙◌}
use Rattle.std.specs.Prelude.{Err}
use Rattle.text.proofs.Checks.{check_stop, check_on, check_none}
use Rattle.text.proofs.Steps.{stepped, step_from_lem}
use Rattle.text.proofs.utf8.walk_one.Goals.{in_default-via-in-Scalar+else-may_stand, in_default-via-in_default}
use Rattle.text.proofs.utf8.walk_one.Goals as goal

pub returns-in-Scalar : goal.returns-in-Scalar
returns-in-Scalar c =
    let f = stepped _ c.args.at _ _ (step_from_lem _ c.new.ensures c.in-Scalar.ensures) in
    (f.ahead, f.inside, check_on _ _ _ _ f (sym c.if-may_stand.ensures))

pub returns-in_default : goal.returns-in_default
returns-in_default c =
    ap Err c.at.ensures ∙ elim c.in_default.branch [
      | in_default-via-in-Scalar+else-may_stand w ↦
          check_stop _ _ _ _ (stepped _ c.args.at _ _ (step_from_lem _ c.new.ensures w.in-Scalar.ensures)) (sym w.if-may_stand.ensures)
      | in_default-via-in_default w ↦ check_none _ _ _ c.requires (step_from_lem _ c.new.ensures c.step.ensures) w.in_default.not-Scalar
    ]
