-- A UUID, or else a number.
use mathlib.Core.Path.{sym, ◌∙◌}
use Rattle.leaves.proofs.FirstBytes.{numeral_uuid, numeral_number}
use Rattle.leaves.proofs.words.numeral_form.Goals as goal

pub returns-then-is_uuid : goal.returns-then-is_uuid
returns-then-is_uuid c = numeral_uuid _ (sym c.is_uuid.ensures ∙ c.if-is_uuid.true)

pub returns : goal.returns
returns c = c.number_form.ensures ∙ numeral_number _ (sym c.is_uuid.ensures ∙ c.if-is_uuid.false)
