-- What the writer answers for the page. Assumes nothing.
use mathlib.Core.Path.{refl, sym, ap, ◌∙◌}
use Rattle.std.specs.Prelude.{Err}
use Rattle.paper.specs.Answer.{told}
use Rattle.text.proofs.Answers.{passes}
use native.Mathlib.Omega.{arith}
use lib.Seq.{length-take-le}
use Rattle.paper.specs.Canonical.{canonical}
use Rattle.layout.proofs.WriteLaws.{blank_page}
use Rattle.rolls.proofs.AddLaws.{page_long, page_holds}
use Rattle.rolls.proofs.adding.refuse_unended.Goals as goal

pub slice_bounds-write_form-end : goal.slice_bounds-write_form-end
slice_bounds-write_form-end c = sym (length-take-le _ _ (omega (arith, blank_page)))

pub returns-in_err-write_form : goal.returns-in_err-write_form
returns-in_err-write_form c =
    λ t of. ap told (passes c.from_residual.ensures.1)
    ∙ page_long _ _ (canonical t) (Err c.in_err-write_form.field-0.0) (c.in_err-write_form.ensures t 0 of) c.args.room c.args.n
    (omega arith) (length-take-le _ _ (omega (arith, blank_page))) _ _ refl

pub returns : goal.returns
returns c =
    λ t of. rw c.at.ensures
    (page_holds _ _ (canonical t) c.write_form.result (c.write_form.ensures t 0 of) c.args.room c.args.n
    (omega arith) (length-take-le _ _ (omega (arith, blank_page))) _ _ c.in_ok-write_form.was)
