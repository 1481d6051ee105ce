-- The page says whether the form fits: too long for a sheet or for the room, or written. Assumes nothing.
use mathlib.Core.Path.{◌∙◌}
use native.Mathlib.Omega.{arith}
use Rattle.paper.specs.Canonical.{canonical}
use Rattle.layout.proofs.WriteLaws.{blank_page, no_space_lem, form_written}
use Rattle.layout.proofs.write_form.Goals as goal

pub returns-then-room-end : goal.returns-then-room-end
returns-then-room-end c =
    λ t lent of. rw c.at.ensures
    (no_space_lem _ c.put_sheet-end.new.out (canonical t) c.args.out.now c.put_sheet-end.result lent
    (c.put_sheet-end.ensures t of) c.put_sheet-end.auto.out blank_page (omega (arith, c.room.ensures, c.if-room-end.true)))

pub returns : goal.returns
returns c =
    λ t lent of. form_written _ c.put_sheet-end.new.out (canonical t) c.args.out.now c.put_sheet-end.result lent
    (c.put_sheet-end.ensures t of) c.put_sheet-end.auto.out blank_page
    (omega (arith, c.room.ensures, c.if-room-end.false)) _ c.copy_from_slice.ensures.after
