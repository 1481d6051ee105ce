-- A name is a run, from its first byte to its last.
use mathlib.Core.Path.{sym, ap, ◌∙◌}
use native.Mathlib.Omega.{arith}
use borrow.Author.Tests.{eqb-true}
use Rattle.paper.specs.Bytes.{is_upper}
use Rattle.names.proofs.Rule.{empty_name, no_run, good_start, bad_start}
use Rattle.names.proofs.is_concept_name.Goals as goal
use Rattle.names.proofs.is_concept_name.Goals.{then-run-name, else-run-name}

pub returns-in_default : goal.returns-in_default
returns-in_default c = let none = c.in_default.ensures.item in empty_name is_upper _ (omega arith)

pub returns-then-is_upper : goal.returns-then-is_upper
returns-then-is_upper c =
    let first = c.in-Some.ensures.item.3 in
    elim c.if-run-name.branch [
      | then-run-name w ↦
          let upper = ap is_upper (sym (first.1 0)) ∙ sym w.is_upper.ensures ∙ sym w.value-is ∙ c.if-is_upper.true in
          good_start is_upper _ c.run_at-run.ensures (omega arith) (omega arith) upper
      | else-run-name w ↦ absurd (w.if-run-name.false (eqb-true _ _ (sym w.value-is ∙ c.if-is_upper.true)))
    ]

pub returns-else-is_upper : goal.returns-else-is_upper
returns-else-is_upper c =
    let first = c.in-Some.ensures.item.3 in
    elim c.if-run-name.branch [
      | then-run-name w ↦
          let other = ap is_upper (sym (first.1 0)) ∙ sym w.is_upper.ensures ∙ sym w.value-is ∙ c.if-is_upper.false in
          c.if-is_upper.false ∙ bad_start is_upper _ c.run_at-run.ensures (omega arith) (omega arith) other
      | else-run-name w ↦
          c.if-is_upper.false ∙ no_run is_upper _ c.run_at-run.ensures (omega (arith, w.if-run-name.false, c.run_at-run.ensures.ends))
    ]
