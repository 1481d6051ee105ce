-- No key is due; the key is refused, and so is the label; or the colon behind it says the rest.
use mathlib.Core.Path.{sym, ◌∙◌}
use Rattle.text.proofs.Answers.{passes}
use Rattle.values.proofs.LabelReads.{label_without, label_refused, label_found}
use Rattle.values.proofs.labels.read_label.Goals as goal

pub returns-then-not-is_keyed : goal.returns-then-not-is_keyed
returns-then-not-is_keyed c = label_without _ _ _ c.requires (sym c.is_keyed.ensures ∙ c.if-not-is_keyed.true)

pub returns-in_err-end : goal.returns-in_err-end
returns-in_err-end c =
    let keyed = sym c.is_keyed.ensures ∙ c.if-not-is_keyed.false in
    rw (passes c.from_residual.ensures.1) (label_refused _ _ _ keyed _ c.read_key.ensures _ c.in_err-end.was)

pub returns : goal.returns
returns c = label_found _ _ _ (sym c.is_keyed.ensures ∙ c.if-not-is_keyed.false) _ c.read_key.ensures _ c.in_ok-end.was _ c.read_colon.ensures
