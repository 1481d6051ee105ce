-- Each arm is a law of the first byte.
use mathlib.Core.Path.{◌∙◌}
use native.Mathlib.Omega.{arith}
use Rattle.leaves.proofs.Forms.{number_if}
use Rattle.leaves.proofs.FirstBytes.{letter_of, numeral_of, form_letters, form_numerals, form_none, form_pascal, form_camel}
use Rattle.leaves.proofs.words.word_form.Goals as goal

pub returns-in-36 : goal.returns-in-36
returns-in-36 c = form_pascal _ _ c.in-36.len_at_least (omega arith) (number_if _ _ _ _ c.then_some.ensures c.is_named.ensures)

pub returns-in-126 : goal.returns-in-126
returns-in-126 c = form_camel _ _ c.in-126.len_at_least (omega arith) (number_if _ _ _ _ c.then_some-in-126.ensures c.is_named-in-126.ensures)

pub returns-in-65-to-90 : goal.returns-in-65-to-90
returns-in-65-to-90 c = c.lettered_form.ensures ∙ form_letters _ (letter_of _ (grind arith) (grind arith) (λ k. grind arith))

pub returns-in-48-to-57 : goal.returns-in-48-to-57
returns-in-48-to-57 c = c.numeral_form.ensures ∙ form_numerals _ (numeral_of _ (λ k p. grind arith) (grind arith))

pub returns-in_default : goal.returns-in_default
returns-in_default c = form_none _ (λ h. grind arith)

pub returns-in_default-2 : goal.returns-in_default-2
returns-in_default-2 c = form_none _ (λ h. grind arith)

pub returns-in_default-3 : goal.returns-in_default-3
returns-in_default-3 c = form_none _ (λ h. grind arith)

pub returns-in_default-4 : goal.returns-in_default-4
returns-in_default-4 c = form_none _ (λ h. grind arith)

pub returns-in_default-5 : goal.returns-in_default-5
returns-in_default-5 c = form_none _ (λ h. grind arith)
