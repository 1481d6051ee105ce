-- One kind after another, each a law.
use mathlib.Core.Path.{sym, ◌∙◌}
use Rattle.leaves.proofs.Forms.{number_if}
use Rattle.leaves.proofs.FirstBytes.{lettered_true, lettered_false, lettered_uuid, lettered_iri}
use Rattle.leaves.proofs.words.lettered_form.Goals as goal
use Rattle.leaves.proofs.words.lettered_form.Goals.{then-same-via-then-same, then-same-via-else-same+then-same-2}

pub returns-then-same : goal.returns-then-same
returns-then-same c =
    elim c.then-same.branch [
      | then-same-via-then-same w ↦ lettered_true _ (sym c.same.ensures ∙ w.if-same.true)
      | then-same-via-else-same+then-same-2 w ↦ lettered_false _ (sym c.same.ensures ∙ w.if-same.false) (sym w.same-else-same.ensures ∙ w.if-same-2.true)
    ]

pub returns-then-is_uuid : goal.returns-then-is_uuid
returns-then-is_uuid c =
    lettered_uuid _ (sym c.same.ensures ∙ c.if-same.false) (sym c.same-else-same.ensures ∙ c.if-same-2.false)
    (sym c.is_uuid.ensures ∙ c.if-is_uuid.true)

pub returns : goal.returns
returns c =
    lettered_iri _ (sym c.same.ensures ∙ c.if-same.false) (sym c.same-else-same.ensures ∙ c.if-same-2.false)
    (sym c.is_uuid.ensures ∙ c.if-is_uuid.false) _ (number_if _ _ _ _ c.then_some.ensures c.is_iri.ensures)
