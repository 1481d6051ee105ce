-- By the form; words other than UUIDs are copied. Assumes nothing.
use mathlib.Core.Path.{sym, ◌∙◌}
use Rattle.quoting.proofs.ByForm.{character_there, uuid_there, word_there}
use Rattle.quoting.proofs.leaf.put_leaf.Goals as goal

pub returns-then-form-number-2 : goal.returns-then-form-number-2
returns-then-form-number-2 c =
    λ also v e q r. character_there also c.args.w.now c.put_quoted.ensures v e
    (sym c.number-else-form-number.ensures ∙ sym c.if-form-number-2.true ∙ q) r

pub returns-then-form-number-3 : goal.returns-then-form-number-3
returns-then-form-number-3 c =
    λ also v e q r. uuid_there also c.args.w.now c.put_lower.ensures v e
    (sym c.number-else-form-number-2.ensures ∙ sym c.if-form-number-3.true ∙ q)

pub returns-else-form-number-3 : goal.returns-else-form-number-3
returns-else-form-number-3 c =
    λ also v e q r. word_there also c.args.w.now c.put.ensures c.args.form (λ h. c.if-form-number.false (h ∙ sym c.number.ensures))
    (λ h. c.if-form-number-2.false (h ∙ sym c.number-else-form-number.ensures))
    (λ h. c.if-form-number-3.false (h ∙ sym c.number-else-form-number-2.ensures)) v e q
