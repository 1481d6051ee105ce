-- The index that is made here is empty at first, and nobody reads it.
use Rattle.modes.proofs.Chains.{fresh}
use Rattle.modes.proofs.read.Goals as goal

pub read_into-requires : goal.read_into-requires
read_into-requires c = fresh
