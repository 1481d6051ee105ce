-- All are plain where the run of them goes to the end. Assumes nothing.
use Rattle.quoting.proofs.Plainly.{plain_all}
use Rattle.quoting.proofs.quoted.are_plain.Goals as goal

pub returns : goal.returns
returns c = plain_all _ _ _ c.plain_end.ensures.0
