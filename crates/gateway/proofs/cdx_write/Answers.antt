-- What is answered is the form's writing, whose numbers are small; cells and output are those of `write`.
use Rattle.gateway.proofs.Answering.{form_few, form_told}
use Rattle.gateway.proofs.cdx_write.Goals as goal

pub tell-requires : goal.tell-requires
tell-requires c = form_few _ _ _ _ _ _ _ c.write.ensures

pub returns : goal.returns
returns c = form_told _ _ _ _ _ _ _ _ c.write.ensures c.tell.ensures
