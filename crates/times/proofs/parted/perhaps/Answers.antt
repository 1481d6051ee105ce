-- By what the two tests say of the parts, or with no second one. Assumes nothing.
use mathlib.Core.Path.{◌≡◌, ◌∙◌}
use mathlib.Core.Bool.{◌&&◌}
use Rattle.times.proofs.Both.{both_first, both_second}
use Rattle.times.proofs.Splits.{perhaps_only, perhaps_on}
use Rattle.times.proofs.parted.perhaps.Goals as goal
use Rattle.times.proofs.parted.perhaps.Goals.{then-first, else-first}

pub returns-in-Some : goal.returns-in-Some
returns-in-Some g c =
    λ p q j k.
    let says = j _ _ c.first.ensures in
    let two : c.if-first.result ≡ p c.in-Some.front.now && q c.in-Some.rest.now =
    elim c.if-first.branch [
      | then-first w ↦ both_second says w.if-first.true (w.result-is ∙ k _ _ w.second.ensures)
      | else-first w ↦ both_first _ says w.if-first.false w.result-is
    ] in
    two ∙ perhaps_on _ p q _ _ _ c.in-Some.ensures

pub returns : goal.returns
returns g c = λ p q j k. j _ _ c.first-in-None.ensures ∙ perhaps_only _ p q _ c.in-None.ensures
