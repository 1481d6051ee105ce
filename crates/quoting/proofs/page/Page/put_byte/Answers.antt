-- Stored where there is room. Assumes nothing.
use mathlib.Core.Path.{refl}
use mathlib.Core.List.{[], ◌∷◌}
use Rattle.quoting.proofs.Putting.{stored_there}
use Rattle.quoting.proofs.page.Page.put_byte.Goals as goal

pub returns-then-has_room : goal.returns-then-has_room
returns-then-has_room c =
    let room = c.has_room.ensures.room c.if-has_room.true in
    stored_there c.args.self.now c.has_room.new.self _ (c.args.b ∷ []) room.0 refl refl refl

pub returns-else-has_room : goal.returns-else-has_room
returns-else-has_room c = c.has_room.ensures.full c.if-has_room.false (c.args.b ∷ []) refl
