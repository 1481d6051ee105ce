-- A law for each way out: the text, the room, the rest of the line.
use mathlib.Core.Path.{ap, refl}
use native.Mathlib.Omega.{arith}
use Rattle.text.proofs.Answers.{passes}
use Rattle.std.specs.Prelude.{Ok, Err}
use Rattle.lines.proofs.Crossing.{room_left}
use Rattle.lines.proofs.Ends.{RestAt, rest_at}
use Rattle.lines.proofs.Notes.{TextAt, text_at, note_refused, note_full, rest_refused, note_made}
use Rattle.lines.proofs.annotations.read_one.Goals.{In_ok-behind}
use Rattle.lines.proofs.annotations.read_one.Goals as goal

pub returns-in_err-behind : goal.returns-in_err-behind
returns-in_err-behind c = λ tabs. note_refused _ _ _ _ _ tabs _ _ _ _ c.in_err-behind.ensures (passes c.from_residual.ensures.1)

-- the text
text : (c : In_ok-behind) → TextAt c.args.s.now c.args.at c.in_ok-behind.behind
text c = text_at _ _ (Ok _) _ c.requires.0.inside c.in_ok-behind.ensures refl

pub returns-then-is_full : goal.returns-then-is_full
returns-then-is_full c =
    λ tabs.
    note_full _ _ _ _ _ tabs _ _ _ _ (text (goal.at.returns-then-is_full c).In_ok-behind) _ c.is_full.ensures c.if-is_full.true
    c.requires.0.inside (ap Err c.at.ensures)

pub line_rest-requires : goal.line_rest-requires
line_rest-requires c = (text (goal.at.line_rest-requires c).In_ok-behind).inside

pub returns-in_err-end : goal.returns-in_err-end
returns-in_err-end c =
    λ tabs.
    rest_refused _ _ _ _ _ tabs _ _ _ _ (text (goal.at.returns-in_err-end c).In_ok-behind) _ c.is_full.ensures c.if-is_full.false _
    c.in_err-end.ensures (passes c.from_residual-in_err-end.ensures.1)

pub overflow_sub-behind : goal.overflow_sub-behind
overflow_sub-behind c = let t = text (goal.at.overflow_sub-behind c).In_ok-behind in omega arith

pub enter-requires : goal.enter-requires
enter-requires c =
    let t = text (goal.at.enter-requires c).In_ok-behind in
    (room_left _ _ _ c.requires.1 c.is_full.ensures c.if-is_full.false, omega (arith, c.requires.0), omega (arith, c.requires.0))

pub returns : goal.returns
returns c =
    let text = text (goal.at.returns c).In_ok-behind in
    let rest : RestAt c.args.s.now c.in_ok-behind.behind c.in_ok-end.end =
    rest_at _ _ (Ok _) _ text.inside c.in_ok-end.ensures refl in
    λ tabs.
    note_made _ _ _ _ _ tabs _ _ _ _ text _ c.is_full.ensures c.if-is_full.false _ rest refl c.enter.ensures
