-- Name and "=" as they stand, then the value. Assumes nothing.
use Rattle.entries.specs.Laid.{entry_of}
use Rattle.printing.proofs.TraitParts.{trait_put}
use Rattle.printing.proofs.markers.put_trait.Goals as goal

pub returns : goal.returns
returns c = (
  c.put_value.ensures.0,
  λ parent place t o r f. trait_put c.args.laid.s.now c.args.laid.cells.now c.args.n parent place t o
      (entry_of c.at-own.result) c.at-own.ensures _ c.part.ensures c.put.ensures c.put_value.ensures.1 r f,
)
