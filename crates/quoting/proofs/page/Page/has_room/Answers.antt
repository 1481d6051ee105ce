-- Where there is no room, the place is behind the page's end. Assumes nothing.
use mathlib.Core.Path.{refl}
use native.Mathlib.Omega.{arith}
use Prim.Native.Nat.{◌+◌, ◌<◌}
use lib.ListN.{length}
use Rattle.quoting.proofs.Putting.{no_room}
use Rattle.quoting.proofs.page.Page.has_room.Goals as goal
use Rattle.quoting.proofs.page.Page.has_room.Goals.{else-self-via-then-self+else-more-self, else-self-via-else-self}

pub returns-clause-full : goal.returns-clause-full
returns-clause-full c = λ _ w n.
    let over : length c.args.self.now.out.now < c.args.self.now.at + length w =
    elim c.else-self.branch [ else-self-via-then-self+else-more-self w ↦ omega arith | else-self-via-else-self w ↦ omega arith ] in
    no_room c.args.self.now _ w refl over (omega arith)
