use mathlib.Core.Path.{refl, sym, ◌∙◌}
use mathlib.Core.Bool.{true}
use native.Mathlib.Omega.{arith}
use Rattle.text.proofs.Answers.{passes}
use Rattle.std.specs.Prelude.{Ok, Err}
use Rattle.lines.proofs.NoteRuns.{Turn, notes_begin, notes_over, mark_inside, lent_fits, notes_refused, note_ahead, notes_on}
use Rattle.lines.proofs.annotations.read_all.Goals.{Else-not-starts_with}
use Rattle.lines.proofs.annotations.read_all.Goals as goal

pub loop-slot-init : goal.loop-slot-init
loop-slot-init c = notes_begin _ _ _ _ c.requires.0.inside c.requires.1.inside

pub returns-then-not-starts_with : goal.returns-then-not-starts_with
returns-then-not-starts_with c =
    notes_over (record { so_far = c.loop-slot.invariant; run = c.tab_end-mark.ensures; asked = sym c.starts_with.ensures ∙ c.if-not-starts_with.true })

-- in this turn an annotation is due
turn : (c : Else-not-starts_with)
    → Turn c.args.s.now c.args.at c.args.cells.now c.args.slot c.loop-slot.cells c.loop-slot.i c.loop-slot.made c.tab_end-mark.result true
turn c = record { so_far = c.loop-slot.invariant; run = c.tab_end-mark.ensures; asked = sym c.starts_with.ensures ∙ c.if-not-starts_with.false }

pub overflow_add-mark : goal.overflow_add-mark
overflow_add-mark c = let there = mark_inside (turn (goal.at.overflow_add-mark c).Else-not-starts_with) in omega arith

pub read_one-requires : goal.read_one-requires
read_one-requires c =
    let this = turn (goal.at.read_one-requires c).Else-not-starts_with in
    (record { within = c.requires.0.within; inside = mark_inside this }, lent_fits this _ c.after.ensures c.requires.1)

pub returns-in_err-i : goal.returns-in_err-i
returns-in_err-i c =
    notes_refused (turn (goal.at.returns-in_err-i c).Else-not-starts_with) _ c.after.ensures (Err _) _ c.in_err-i.ensures _ refl _
    (passes c.from_residual.ensures.1)

pub loop-slot-smaller : goal.loop-slot-smaller
loop-slot-smaller c =
    let n = note_ahead (turn (goal.at.loop-slot-smaller c).Else-not-starts_with) _ c.after.ensures (Ok _) _ c.in_ok-i.ensures _ refl in
    omega arith

pub loop-slot-preserved : goal.loop-slot-preserved
loop-slot-preserved c =
    notes_on (turn (goal.at.loop-slot-preserved c).Else-not-starts_with) _ c.after.ensures (Ok _) _ c.in_ok-i.ensures _ refl c.read_one.auto.cells
