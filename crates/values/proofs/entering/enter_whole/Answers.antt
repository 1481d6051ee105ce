-- What is no bracket has no items, as it was read; a bracket is entered as the value that it is; a value and an 11 are told as they are.
use Rattle.std.proofs.Common.{rules}
use Rattle.values.proofs.BracketLaws.{opening_none}
use Rattle.values.proofs.EnterLaws.{read_as, told_so}
use Rattle.values.proofs.entering.enter_whole.Goals.{then-is_none, else-is_none}
use Rattle.values.proofs.entering.enter_whole.Goals as goal

pub returns-clause-entered : goal.returns-clause-entered
returns-clause-entered c =
    told_so _ _ 8 _ _ _ c.if-is_none.entered c.map_err.result c.if-is_none.cells _ c.map_err.ensures.cases (λ place f h. search rules)
    (elim c.if-is_none.branch [
      | then-is_none w ↦
          rw (w.entered-is, w.cells-is)
          (read_as _ _ 8 _ _ _ c.args.value (opening_none _ (rw c.opens.ensures at w.if-is_none.ensures)) c.requires.1 _ w.map-entered.ensures.cases
          (λ v e h. search rules))
      | else-is_none w ↦ rw (w.entered-is, w.cells-is) (rw w.new.ensures at w.enter-entered.ensures)
    ])
