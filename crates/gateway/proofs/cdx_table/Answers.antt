-- What is answered is the table's reading, whose numbers are small.
use mathlib.Core.Path.{ap, ◌∙◌}
use Rattle.gateway.specs.Answers.{three_of}
use Rattle.gateway.proofs.Answering.{table_few}
use Rattle.gateway.proofs.cdx_table.Goals as goal

pub tell-requires : goal.tell-requires
tell-requires c = table_few _ _ c.read.ensures

pub returns : goal.returns
returns c = c.tell.ensures ∙ ap three_of c.read.ensures
