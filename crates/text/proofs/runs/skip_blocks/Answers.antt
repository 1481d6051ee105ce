use mathlib.Core.Path.{refl}
use native.Mathlib.Omega.{arith}
use Rattle.text.proofs.Stretch.{all_none, all_then}
use Rattle.text.proofs.runs.skip_blocks.Goals as goal

pub loop-i-init : goal.loop-i-init
loop-i-init g c = (all_none refl, c.requires.ahead)

pub takes_block-requires-clause-callable : goal.takes_block-requires-clause-callable
takes_block-requires-clause-callable g c = λ i l h. c.requires.callable i (omega arith) (omega arith)

pub loop-i-preserved : goal.loop-i-preserved
loop-i-preserved g c = (all_then c.loop-i.invariant.0 (c.takes_block.ensures c.if-not-takes_block.false), omega arith)
