use Rattle.quoting.proofs.Spelling.{rest_all, rest_on, rest_over}
use Rattle.quoting.proofs.Plainly.{rest_plain}
use Rattle.quoting.proofs.quoted.put_pieces.Goals as goal

pub loop-i-init : goal.loop-i-init
loop-i-init c = λ ps e r. rest_all _ _ _ ps e r

pub loop-i-preserved-then-i-stop : goal.loop-i-preserved-then-i-stop
loop-i-preserved-then-i-stop c = λ ps e r. rest_plain _ _ _ ps _ _ (c.loop-i.invariant ps e r) _ c.plain_end-stop.ensures _ c.put.ensures

pub loop-i-preserved : goal.loop-i-preserved
loop-i-preserved c = λ ps e r. rest_on _ _ _ ps _ _ (c.loop-i.invariant ps e r) c.loop-i-test.true _ _ c.put_piece-i.ensures.1

pub returns : goal.returns
returns c = λ ps e r. rest_over _ _ _ ps _ _ (c.loop-i.invariant ps e r) c.loop-i-test.false
