-- Stored where there is room. Assumes nothing.
use mathlib.Core.Path.{refl}
use mathlib.Core.List.{map}
use lib.ListN.{length-map}
use Rattle.quoting.proofs.Putting.{stored_there}
use Rattle.quoting.proofs.page.Page.put_each.Goals as goal

pub returns-then-has_room : goal.returns-then-has_room
returns-then-has_room g c = λ f m.
    let room = c.has_room.ensures.room c.if-has_room.true in
    stored_there c.args.self.now c.has_room.new.self _ (map f c.args.part.now) room.0 refl (c.lay.ensures f m) (simp length-map)

pub returns-else-has_room : goal.returns-else-has_room
returns-else-has_room g c = λ f m. c.has_room.ensures.full c.if-has_room.false (map f c.args.part.now) (simp length-map)
