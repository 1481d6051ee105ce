-- The room behind the first n bytes, the line end before them, and what the writer leaves of the part that it is lent. Assumes nothing.
use Prim.Native.Nat.{◌+◌, ◌<◌}
use mathlib.Core.Path.{refl, sym, ◌∙◌}
use native.Mathlib.Nat.{lt_of_lt_of_le, le_of_eq}
use native.Mathlib.Omega.{arith}
use lib.ListN.{length}
use Rattle.std.specs.Prelude.{Err}
use Rattle.paper.specs.Canonical.{canonical}
use Rattle.text.proofs.Answers.{passes}
use Rattle.rolls.proofs.AddLaws.{add_long, add_refused, form_inside, form_added, form_long}
use Rattle.rolls.proofs.adding.add_form.Goals.{In_ok-written}
use Rattle.rolls.proofs.adding.add_form.Goals as goal

pub returns-then-room-eq0 : goal.returns-then-room-eq0
returns-then-room-eq0 c =
    λ t lent of. rw c.at.ensures
    (add_long lent _ (canonical t) _ c.room_behind-room.result c.room_behind-room.ensures (omega (arith, c.if-room-eq0.true)))

pub returns-then-not-ends_in_line : goal.returns-then-not-ends_in_line
returns-then-not-ends_in_line c =
    λ t lent of. add_refused lent _ (canonical t) _ c.room_behind-room.result c.room_behind-room.ensures (omega (arith, c.if-room-eq0.false))
    (sym c.ends_in_line.ensures ∙ c.if-not-ends_in_line.true) _ (c.refuse_unended.ensures t of)

pub returns-in_err-written : goal.returns-in_err-written
returns-in_err-written c =
    λ t lent of. rw (passes c.from_residual.ensures.1)
    (form_long c.args.roll.now (canonical t) _ c.args.n c.room_behind-room.result (Err c.in_err-written.field-0.0)
    c.room_behind-room.ensures (omega (arith, c.if-room-eq0.false)) (c.in_err-written.ensures t 0 of) lent _ _ refl)

inside : (c : In_ok-written) → c.args.n + c.in_ok-written.written.count < length c.args.roll.now
inside c =
    form_inside c.args.roll.now (canonical c.requires.it) _ c.args.n c.room_behind-room.result c.write_form.result
    c.room_behind-room.ensures (omega (arith, c.if-room-eq0.false)) (c.write_form.ensures c.requires.it 0 c.requires.of) _ _
    c.in_ok-written.was

pub overflow_add-end : goal.overflow_add-end
overflow_add-end c = omega (arith, inside (goal.at.overflow_add-end c).In_ok-written)

pub bounds-roll-end : goal.bounds-roll-end
bounds-roll-end c = lt_of_lt_of_le (inside (goal.at.bounds-roll-end c).In_ok-written) (le_of_eq (sym c.roll-1.given.1))

pub overflow_add-result : goal.overflow_add-result
overflow_add-result c = omega (arith, inside (goal.at.overflow_add-result c).In_ok-written)

pub returns : goal.returns
returns c =
    λ t lent of. form_added c.args.roll.now (canonical t) _ c.args.n c.room_behind-room.result c.write_form.result
    c.room_behind-room.ensures (omega (arith, c.if-room-eq0.false)) (c.write_form.ensures t 0 of) _ _ c.in_ok-written.was lent
    (sym c.ends_in_line.ensures ∙ c.if-not-ends_in_line.false)
