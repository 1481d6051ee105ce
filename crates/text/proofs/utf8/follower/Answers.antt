-- Each way out is a law of one byte that follows. Assumes nothing.
use mathlib.Core.Path.{◌∙◌}
use mathlib.Core.Logic.{inl, inr}
use Rattle.text.proofs.Steps.{bits_out, bits_under, bits_over, bits_in}
use Rattle.text.proofs.utf8.follower.Goals as goal

pub returns-in_err-b : goal.returns-in_err-b
returns-in_err-b c = c.from_residual.ensures ∙ bits_out _ _ _ _ c.in_err-b.ensures.lookup.0

pub returns-then-b-low : goal.returns-then-b-low
returns-then-b-low c =
    let got = c.in_ok-b.ensures.lookup in
    elim c.then-b-low.either [ inl less ↦ bits_under _ _ _ _ _ got.0 got.1 less | inr more ↦ bits_over _ _ _ _ _ got.0 got.1 more.1 ]

pub returns : goal.returns
returns c = let got = c.in_ok-b.ensures.lookup in bits_in _ _ _ _ _ got.0 got.1 c.if-b-low.false c.if-high-b.false
