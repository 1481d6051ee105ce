use mathlib.Core.Path.{sym, ◌∙◌}
use native.Mathlib.Omega.{arith}
use Rattle.leaves.specs.Kinds.{enders_of}
use Rattle.leaves.proofs.WordEnds.{word_stops, word_turns, word_out}
use Rattle.leaves.proofs.words.end_within.Goals as goal

pub returns-then-ends_word : goal.returns-then-ends_word
returns-then-ends_word c = (sym (word_stops _ _ _ (sym c.ends_word.ensures ∙ c.if-ends_word.true)) ∙ c.loop-i.invariant, omega arith, omega arith)

pub loop-i-preserved : goal.loop-i-preserved
loop-i-preserved c = sym (word_turns _ _ c.loop-i.i c.loop-i-test.true (sym c.ends_word.ensures ∙ c.if-ends_word.false)) ∙ c.loop-i.invariant

pub returns : goal.returns
returns c = omega (arith, word_out (enders_of c.args.around) c.args.s.now c.loop-i.i c.loop-i-test.false, c.loop-i.invariant)
