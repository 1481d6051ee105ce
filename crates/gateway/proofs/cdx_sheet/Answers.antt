-- What is answered is the sheet's reading, whose numbers are small; the cells are those of `read`.
use mathlib.Core.Path.{ap, ◌∙◌}
use Rattle.paper.specs.Reading.{Reading}
use Rattle.gateway.specs.Answers.{three_of}
use Rattle.gateway.proofs.Answering.{sheet_few}
use Rattle.gateway.proofs.cdx_sheet.Goals as goal

pub tell-requires : goal.tell-requires
tell-requires c = sheet_few _ _ _ _ _ c.read.ensures

pub returns : goal.returns
returns c = (
  ap (λ (x : Reading). x.cells) c.read.ensures,
  c.tell.ensures ∙ ap (λ (x : Reading). three_of x.answer) c.read.ensures,
)
