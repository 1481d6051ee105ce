use Rattle.printing.proofs.Staying.{stay_on}
use Rattle.printing.proofs.content.past_staying.Goals as goal

pub loop-next-preserved : goal.loop-next-preserved
loop-next-preserved c =
    let line = c.in-Some.ensures in
    stay_on _ _ _ _ _ _ c.loop-next.invariant line.0 line.1 c.if-cut-tabs.false
