-- A law for each way out: no lower case letter, letters and digits to the end of input, or a word that ends behind them or goes on.
use mathlib.Core.Path.{sym, ◌∙◌}
use Rattle.values.proofs.BareNames.{bare_other, bare_cut, bare_tested}
use Rattle.values.proofs.labels.bare_end.Goals.{then-end-s, else-end-s}
use Rattle.values.proofs.labels.bare_end.Goals as goal

pub returns-then-not-is_lower : goal.returns-then-not-is_lower
returns-then-not-is_lower c = bare_other _ _ c.requires (sym c.if-not-is_lower.ensures)

pub returns : goal.returns
returns c =
    let lower = sym c.if-not-is_lower.ensures in
    let run = c.end-end.ensures.0 in
    c.then_some.ensures
    ∙ elim c.if-end-s.branch [
      | then-end-s w ↦ bare_tested _ _ c.requires lower _ run _ w.if-end-s.true (w.then_some-is ∙ w.ends_word.ensures)
      | else-end-s w ↦ rw w.then_some-is (bare_cut _ _ c.requires lower _ run w.if-end-s.false)
    ]
