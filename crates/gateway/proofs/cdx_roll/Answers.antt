-- What is answered is the roll's reading, whose numbers are small; records and cells are those of `rolls::read`.
use Rattle.gateway.proofs.RollAnswers.{roll_few, roll_told}
use Rattle.gateway.proofs.cdx_roll.Goals as goal

pub tell-requires : goal.tell-requires
tell-requires c = roll_few _ _ _ _ _ _ _ c.read.ensures

pub returns : goal.returns
returns c = roll_told _ _ _ _ _ _ _ _ c.read.ensures c.tell.ensures
