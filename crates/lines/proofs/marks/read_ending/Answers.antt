-- A law for each way out.
use mathlib.Core.Path.{refl, sym, ◌∙◌}
use Rattle.text.proofs.Answers.{passes}
use Rattle.std.specs.Prelude.{Ok}
use Rattle.lines.proofs.ReadAt.{all_due_at}
use Rattle.lines.proofs.MarkLaws.{ends_block, ends_refused, ends_closed}
use Rattle.lines.proofs.marks.read_ending.Goals as goal

pub returns-then-starts_with : goal.returns-then-starts_with
returns-then-starts_with c = ends_block _ _ c.requires (sym c.starts_with.ensures ∙ c.if-starts_with.true)

pub returns-in_err-bytes_due : goal.returns-in_err-bytes_due
returns-in_err-bytes_due c =
    ends_refused c.args.s.now c.args.at (sym c.starts_with.ensures ∙ c.if-starts_with.false) _ _ c.in_err-bytes_due.ensures (passes c.from_residual.ensures.1)

pub returns : goal.returns
returns c =
    ends_closed _ _ (sym c.starts_with.ensures ∙ c.if-starts_with.false) _
    (all_due_at _ _ _ (Ok _) _ c.requires c.in_ok-bytes_due.ensures refl)
