-- A law for each way out; a word of some kind is not empty.
use mathlib.Core.Path.{refl}
use native.Mathlib.Omega.{arith}
use Rattle.leaves.proofs.Showing.{finds, no_value, cut_off}
use Rattle.leaves.proofs.LeafReads.{word_ends, word_bad, word_good, word_ahead}
use Rattle.leaves.proofs.read_word.Goals as goal

pub returns-then-end-s : goal.returns-then-end-s
returns-then-end-s c = cut_off _ _ _ _ _ c.at.ensures (word_ends _ _ _ _ c.word_end-end.ensures.0 c.if-end-s.true)

pub returns-in_default : goal.returns-in_default
returns-in_default c =
    no_value _ _ _ _ _ _ c.at-in_default.ensures (omega arith)
    (word_bad _ _ _ _ c.word_end-end.ensures.0 (omega arith) _ c.word_form.ensures c.in_default.not-Some)

pub returns : goal.returns
returns c =
    finds _ _ _ _ _ _ (word_ahead _ _ _ _ c.word_end-end.ensures.0 (omega arith) _ c.word_form.ensures _ c.in-Some.is)
    (omega arith) refl
    (word_good _ _ _ _ c.word_end-end.ensures.0 (omega arith) _ c.word_form.ensures _ c.in-Some.is)
