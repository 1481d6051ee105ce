use mathlib.Core.Path.{◌≡◌}
use native.Mathlib.Omega.{arith}
use Rattle.text.proofs.Stretch.{all_none, all_on, both}
use Rattle.text.proofs.runs.takes_block.Goals as goal

pub loop-i-init : goal.loop-i-init
loop-i-init g c = λ e. all_none (omega arith)

pub loop-i-preserved : goal.loop-i-preserved
loop-i-preserved g c =
    λ e.
    let b = both c.loop-i.all c.takes-all.result e in
    all_on (omega arith) (c.loop-i.invariant b.0) (rw b.1 at c.takes-all.ensures)

pub returns : goal.returns
returns g c = λ e. let end : c.loop-i.i ≡ g.row.N = omega arith in rw end at (c.loop-i.invariant e)
