use Prim.Native.Nat.{◌<◌}
use mathlib.Core.Path.{ap, refl}
use native.Mathlib.Omega.{arith}
use Rattle.text.proofs.Answers.{passes}
use Rattle.std.specs.Prelude.{Ok, Err}
use Rattle.lines.specs.Parts.{part}
use Rattle.lines.proofs.Crossing.{room_left}
use Rattle.lines.proofs.Ends.{RestAt, rest_at}
use Rattle.lines.proofs.ContentRun.{LinesTo, lines_begin, lines_refused, lines_on, rest_refused, no_room, line_refused, entered}
use Rattle.lines.proofs.content.read_content.Goals.{In_ok-start}
use Rattle.lines.proofs.content.read_content.Goals as goal

pub returns-in_err-start : goal.returns-in_err-start
returns-in_err-start c = λ k named. rest_refused _ _ _ c.args.at _ _ _ _ k named _ _ _ c.in_err-start.ensures (passes c.from_residual.ensures.1)

-- the rest of the marker's line
rest : (c : In_ok-start) → RestAt c.args.s.now c.args.at c.in_ok-start.start
rest c = rest_at _ _ (Ok _) _ c.requires.0.inside c.in_ok-start.ensures refl

pub returns-then-is_full : goal.returns-then-is_full
returns-then-is_full c =
    λ k named.
    no_room _ _ _ c.args.at _ _ _ _ k named _ _ _ (rest (goal.at.returns-then-is_full c).In_ok-start) _ c.is_full.ensures c.if-is_full.true
    (ap Err c.at.ensures)

pub loop-end-init : goal.loop-end-init
loop-end-init c = lines_begin _ _ _ _ (rest (goal.at.loop-end-init c).In_ok-start).inside

pub returns-in_err-i : goal.returns-in_err-i
returns-in_err-i c =
    λ k named.
    line_refused _ _ _ c.args.at _ _ _ _ k named _ _ _ (rest (goal.at.returns-in_err-i c).In_ok-start) _ c.is_full.ensures c.if-is_full.false _
    (lines_refused _ _ _ _ _ c.loop-end.invariant c.in_default.ensures _ c.in_err-i.ensures)
    (passes c.from_residual-in_err-i.ensures.1)

-- the line of this turn ends further on, and the lines go on behind it
turn : (c : goal.In_ok-i)
    → (c.loop-end.i < c.in_ok-i.i)
    × LinesTo c.args.s.now (part c.args.s.now c.args.from c.args.to) c.args.tabs c.in_ok-start.start c.in_ok-i.i
turn c = lines_on _ _ _ _ _ c.loop-end.invariant c.in_default.ensures _ c.in_ok-i.ensures

pub loop-end-smaller : goal.loop-end-smaller
loop-end-smaller c = let t = turn c in omega arith

pub loop-end-preserved : goal.loop-end-preserved
loop-end-preserved c = (turn c).1

pub enter-requires : goal.enter-requires
enter-requires c =
    let so_far = c.loop-end.invariant in
    (room_left _ _ _ c.requires.1 c.is_full.ensures c.if-is_full.false, omega (arith, c.requires.0), omega (arith, c.requires.0))

pub returns : goal.returns
returns c =
    λ k named.
    entered _ _ _ c.args.at _ _ _ _ k named _ _ _ (rest (goal.at.returns c).In_ok-start) _ c.is_full.ensures c.if-is_full.false _ c.loop-end.invariant
    c.in-Some.ensures.0 _ c.in-Some.ensures.1 refl c.enter.ensures
