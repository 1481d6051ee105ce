-- A law for each way out: the fixed bytes, the name, the names compared as parts of the sheet, the end.
use mathlib.Core.Path.{ap, sym, refl, ◌∙◌}
use mathlib.Core.Bool.{true}
use Rattle.text.proofs.Answers.{passes}
use Rattle.std.specs.Prelude.{Ok, Err}
use Rattle.paper.specs.Bytes.{bytes}
use Rattle.lines.specs.Parts.{entryless}
use Rattle.lines.proofs.ReadAt.{AllDueAt, all_due_at, NameAt, name_at_lem}
use Rattle.lines.proofs.MarkLaws.{no_mark, no_name, other_name, same_name}
use Rattle.lines.proofs.marks.read_closing.Goals.{In_ok-start, In_ok-end}
use Rattle.lines.proofs.marks.read_closing.Goals as goal

pub returns-in_err-start : goal.returns-in_err-start
returns-in_err-start c = no_mark c.args.s.now _ c.args.at _ _ c.in_err-start.ensures (ap entryless (passes c.from_residual.ensures.1))

-- the fixed bytes that are read
mark : (c : In_ok-start) → AllDueAt (bytes "</") c.args.s.now c.args.at c.in_ok-start.start
mark c = all_due_at _ _ _ (Ok _) _ c.requires.0 c.in_ok-start.ensures refl

pub name_end-requires : goal.name_end-requires
name_end-requires c = (mark c).inside

pub returns-in_err-end : goal.returns-in_err-end
returns-in_err-end c =
    no_name _ _ _ _ (mark (goal.at.returns-in_err-end c).In_ok-start) _ _ c.in_err-end.ensures
    (ap entryless (passes c.from_residual-in_err-end.ensures.1))

-- the name that is read
named : (c : In_ok-end) → NameAt (λ v. true) c.args.s.now c.in_ok-start.start c.in_ok-end.end
named c =
    let mark : AllDueAt (bytes "</") c.args.s.now c.args.at c.in_ok-start.start =
    all_due_at _ _ _ (Ok _) _ c.requires.0 c.in_ok-start.ensures refl in
    name_at_lem _ _ _ (Ok _) _ mark.inside c.in_ok-end.ensures refl

pub slice_bounds-same-count-2 : goal.slice_bounds-same-count-2
slice_bounds-same-count-2 c = (named (goal.at.slice_bounds-same-count-2 c).In_ok-end).ahead

pub slice_bounds-same-start-2 : goal.slice_bounds-same-start-2
slice_bounds-same-start-2 c = (named (goal.at.slice_bounds-same-start-2 c).In_ok-end).ahead

pub slice_bounds-same-end-2 : goal.slice_bounds-same-end-2
slice_bounds-same-end-2 c = (named (goal.at.slice_bounds-same-end-2 c).In_ok-end).inside

pub returns-then-not-same : goal.returns-then-not-same
returns-then-not-same c =
    let at = goal.at.returns-then-not-same c in
    other_name _ _ _ _ (mark at.In_ok-start) _ (named at.In_ok-end) _ (sym c.same.ensures ∙ c.if-not-same.true) (ap Err c.at.ensures)

pub bytes_due-requires-2 : goal.bytes_due-requires-2
bytes_due-requires-2 c = (named (goal.at.bytes_due-requires-2 c).In_ok-end).inside

pub returns : goal.returns
returns c =
    let at = goal.at.returns c in
    same_name _ _ _ _ (mark at.In_ok-start) _ (named at.In_ok-end) _ (sym c.same.ensures ∙ c.if-not-same.false) c.bytes_due-2.ensures
