use mathlib.Core.Path.{sym, ◌∙◌}
use borrow.Author.Tests.{eqb-true, eqb-false}
use native.Mathlib.Omega.{arith}
use Rattle.entries.specs.Laid.{entry_of}
use Rattle.printing.proofs.NoteLaws.{notes_on, notes_over}
use Rattle.printing.proofs.notes.put_notes.Goals as goal

pub loop-page-preserved : goal.loop-page-preserved
loop-page-preserved c = (
  omega (arith, c.loop-page.invariant.0),
  λ parent place notes of none. notes_on _ _ _ _ _ notes (c.loop-page.invariant.1 parent place notes of none) none
      (eqb-true _ 4 (sym c.is_of.ensures.same ∙ c.loop-page-test.true)) (entry_of c.at.result) c.at.ensures _ c.spelling.ensures c.put_note.ensures,
)

pub returns : goal.returns
returns c = (
  c.loop-page.invariant.0,
  λ parent place notes of none. notes_over _ _ _ _ _ notes (c.loop-page.invariant.1 parent place notes of none)
      (eqb-false _ 4 (sym c.is_of.ensures.same ∙ c.loop-page-test.false)),
)
