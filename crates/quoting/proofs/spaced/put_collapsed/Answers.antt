use mathlib.Core.Path.{refl}
use Rattle.std.proofs.Common.{rules}
use Rattle.quoting.proofs.Putting.{puts_within}
use Rattle.quoting.proofs.Collapsing.{white_on, word_on, over}
use Rattle.quoting.proofs.spaced.put_collapsed.Goals as goal
use Rattle.quoting.proofs.spaced.put_collapsed.Goals.{then-passes, else-passes}

pub loop-b-preserved : goal.loop-b-preserved
loop-b-preserved c = elim c.if-passes.branch [
  | then-passes w ↦
      let h = c.passes.ensures.word w.if-passes.true in
      rw (w.own-is, h.1) (word_on c.args.w.now c.loop-b.b-index c.loop-b.spacing c.loop-b.invariant c.loop-b-test.true h.0 h.2 w.put_byte.ensures)
  | else-passes w ↦
      let h = c.passes.ensures.white w.if-passes.false in
      rw (w.own-is, h.1, h.2) (white_on c.args.w.now c.loop-b.b-index c.loop-b.spacing c.loop-b.invariant c.loop-b-test.true h.0)
]

pub returns : goal.returns
returns c =
    puts_within refl refl (over c.args.w.now c.loop-b.b-index c.loop-b.spacing c.loop-b.invariant c.loop-b-test.false) refl (λ n. search rules) refl
