use mathlib.Core.Path.{refl}
use Rattle.std.proofs.Common.{rules}
use Rattle.quoting.proofs.Putting.{puts_within}
use Rattle.quoting.proofs.Ticks.{ticks_white, ticks_word, ticks_over}
use Rattle.quoting.proofs.backticks.put_backtick.Goals as goal
use Rattle.quoting.proofs.backticks.put_backtick.Goals.{then-passes, else-passes}

pub loop-i-preserved : goal.loop-i-preserved
loop-i-preserved c = λ ps e r. elim c.if-passes.branch [
  | then-passes w ↦
      let h = c.passes.ensures.word w.if-passes.true in
      rw (w.apart-is, h.1) (ticks_word _ _ ps _ _ _ _ (c.loop-i.invariant ps e r) c.meant_at-own.ensures.2 h.0 h.2 w.put_escaped.ensures)
  | else-passes w ↦
      let h = c.passes.ensures.white w.if-passes.false in
      rw (w.apart-is, h.1, h.2) (ticks_white _ _ ps _ _ _ _ (c.loop-i.invariant ps e r) c.meant_at-own.ensures.2 h.0)
]

pub returns : goal.returns
returns c =
    λ ps e r. puts_within refl refl (ticks_over _ _ ps _ _ _ 0 (c.loop-i.invariant ps e r) c.loop-i-test.false) refl (λ n. search rules) refl
