-- What is answered is the adding, whose numbers are small; roll and cells are those of `rolls::add`.
use Rattle.gateway.proofs.RollAnswers.{adding_few, adding_told}
use Rattle.gateway.proofs.cdx_add.Goals as goal

pub tell-requires : goal.tell-requires
tell-requires c = adding_few _ _ _ _ _ _ _ _ c.add.ensures

pub returns : goal.returns
returns c = adding_told _ _ _ _ _ _ _ _ _ c.add.ensures c.tell.ensures
