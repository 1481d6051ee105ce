-- A law for each way out.
use Rattle.text.proofs.Answers.{passes}
use Rattle.sheets.proofs.PieceLaws.{rest_refused, rest_read}
use Rattle.sheets.proofs.concepts.end_line.Goals as goal

pub returns-in_err-end : goal.returns-in_err-end
returns-in_err-end c = rest_refused c.args.s.now c.args.part _ c.in_err-end.ensures (passes c.from_residual.ensures.1)

pub returns : goal.returns
returns c = rest_read _ _ c.requires c.in_ok-end.ensures
