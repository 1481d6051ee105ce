-- Two times two digits, or not. Assumes nothing.
use mathlib.Core.Path.{◌≡◌, sym, ◌∙◌}
use mathlib.Core.Bool.{true}
use native.Mathlib.Omega.{arith}
use Rattle.paper.specs.Times.{digits}
use Rattle.paper.proofs.TimeKinds.{digits_of}
use Rattle.times.proofs.Digits.{four, four_spell}
use Rattle.times.proofs.fields.year.Goals as goal

pub returns-in_err-pair : goal.returns-in_err-pair
returns-in_err-pair c =
    let cut = c.in_ok-first.ensures.cases in
    rw c.from_residual-in_err-pair.ensures (sym (four _ _ _ cut.1 cut.2 cut.0) ∙ rw c.in_err-pair.ensures)

pub returns-in_err-pair-2 : goal.returns-in_err-pair-2
returns-in_err-pair-2 c =
    let cut = c.in_ok-first.ensures.cases in
    rw c.from_residual-in_err-pair-2.ensures (sym (four _ _ _ cut.1 cut.2 cut.0) ∙ rw (c.in_ok-pair.ensures.0, c.in_err-pair-2.ensures))

pub returns : goal.returns
returns c =
    let cut = c.in_ok-first.ensures.cases in
    let is : digits 4 c.args.w.now ≡ true = sym (four _ _ _ cut.1 cut.2 cut.0) ∙ rw (c.in_ok-pair.ensures.0, c.in_ok-pair-2.ensures.0) in (
      is,
      omega (arith, c.from.ensures, c.from-2.ensures, c.in_ok-pair.ensures.1, c.in_ok-pair-2.ensures.1, four_spell _ _ _ cut.1 cut.2 (digits_of 4 _ is).0),
    )
