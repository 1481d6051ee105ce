-- The blank lines, and what the end of input cuts.
use Rattle.text.proofs.Answers.{passes}
use Rattle.sheets.proofs.SheetLaws.{blanks_refused, blanks_inside, blanks_last}
use Rattle.sheets.proofs.read_rest.Goals as goal

pub returns-in_err-end : goal.returns-in_err-end
returns-in_err-end c = blanks_refused c.args.s.now c.args.at _ c.in_err-end.ensures _ (passes c.from_residual.ensures.1)

pub last_blanks-requires : goal.last_blanks-requires
last_blanks-requires c = blanks_inside c.args.s.now c.args.at c.requires _ c.in_ok-end.ensures

pub returns : goal.returns
returns c = blanks_last c.args.s.now c.args.at c.requires _ c.in_ok-end.ensures c.last_blanks.result c.last_blanks.ensures
