-- The annotations of the root, and the root. Assumes nothing.
use Rattle.std.proofs.Common.{rules}
use Rattle.printing.proofs.SheetLaws.{sheet_put}
use Rattle.printing.proofs.concepts.put_sheet.Goals as goal

pub returns : goal.returns
returns c =
    λ t of. sheet_put _ _ t of c.args.out.now _ _ _ c.new-page.ensures.bytes c.new-page.ensures.place
    (λ n. search rules) c.put_notes-root.ensures.1 (rw c.new.ensures at c.put_concept.ensures)
