-- A law for each way out: the length, the bytes, the tree.
use Prim.Native.Nat.{◌≤◌}
use mathlib.Core.Path.{refl, sym, ap, ◌∙◌}
use lib.ListN.{length}
use borrow.Author.Tests.{ltb-true, ltb-false}
use Rattle.text.proofs.Answers.{passes}
use Rattle.std.specs.Prelude.{Err}
use Rattle.paper.specs.Limits.{sheet_limit}
use Rattle.sheets.proofs.SheetLaws.{sheet_long, sheet_broken, sheet_refused, sheet_read}
use Rattle.sheets.proofs.read_under.Goals.{Else-is_too_long}
use Rattle.sheets.proofs.read_under.Goals as goal

-- the sheet is not too long
short : (c : Else-is_too_long) → length c.args.sheet.now ≤ sheet_limit
short c = ltb-false _ _ (sym c.is_too_long.ensures ∙ c.if-is_too_long.false)

pub returns-then-is_too_long : goal.returns-then-is_too_long
returns-then-is_too_long c = rw c.at.ensures (sheet_long _ _ _ _ (ltb-true _ _ (sym c.is_too_long.ensures ∙ c.if-is_too_long.true)))

pub read_tree-requires : goal.read_tree-requires
read_tree-requires c = short (goal.at.read_tree-requires c).Else-is_too_long

pub returns-in_err-check : goal.returns-in_err-check
returns-in_err-check c =
    rw (passes c.from_residual.ensures.1) (sheet_broken _ _ _ (short (goal.at.returns-in_err-check c).Else-is_too_long) _ _ c.in_err-check.ensures)

pub returns-in_err-tree : goal.returns-in_err-tree
returns-in_err-tree c =
    rw (passes c.from_residual-in_err-tree.ensures.1)
    (sheet_refused _ _ _ (short (goal.at.returns-in_err-tree c).Else-is_too_long) c.in_ok-check.ensures _ _ c.in_err-tree.ensures _ refl)

pub returns : goal.returns
returns c = sheet_read _ _ _ (short (goal.at.returns c).Else-is_too_long) c.in_ok-check.ensures _ _ c.in_ok-tree.ensures _ refl
