-- The "<", and then the name.
use mathlib.Core.Path.{refl}
use Rattle.text.proofs.Answers.{passes}
use Rattle.std.specs.Prelude.{Ok}
use Rattle.paper.specs.Bytes.{byte}
use Rattle.lines.proofs.ReadAt.{DueAt, due_at}
use Rattle.sheets.proofs.OpeningLaws.{no_mark, mark_named}
use Rattle.sheets.proofs.opening.read_head.Goals.{In_ok-start}
use Rattle.sheets.proofs.opening.read_head.Goals as goal

mark : (c : In_ok-start) → DueAt (byte "<") c.args.s.now c.args.at c.in_ok-start.start
mark c = due_at _ _ _ (Ok c.in_ok-start.start) _ c.requires c.in_ok-start.ensures refl

pub returns-in_err-start : goal.returns-in_err-start
returns-in_err-start c = no_mark _ c.args.at _ c.in_err-start.ensures _ (passes c.from_residual.ensures.1)

pub name_end-requires : goal.name_end-requires
name_end-requires c = (mark (goal.at.name_end-requires c).In_ok-start).inside

pub returns : goal.returns
returns c = mark_named _ _ (mark (goal.at.returns c).In_ok-start) c.name_end.result c.name_end.ensures
