-- Either index has no start yet, and room for the traits of any marker of the sheet.
use mathlib.Core.Logic.{inl, inr}
use native.Mathlib.Omega.{arith}
use Rattle.sheets.proofs.NameIndex.{no_names}
use Rattle.sheets.proofs.concepts.read_root.Goals as goal

pub read_annotated-requires : goal.read_annotated-requires
read_annotated-requires c = (c.requires, c.tab_end-mark.ensures, no_names _ 128 (inl (omega arith)) (omega arith))

pub read_annotated-requires-2 : goal.read_annotated-requires-2
read_annotated-requires-2 c = (c.requires, c.tab_end-mark.ensures, no_names _ 2048 (inr (omega arith)) (omega arith))
