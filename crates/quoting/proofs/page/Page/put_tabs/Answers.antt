-- Stored where there is room. Assumes nothing.
use Prim.Native.Nat.{ℕ, ◌+◌, ◌-◌}
use mathlib.Core.Path.{◌≡◌, refl, ap, ◌∙◌}
use native.Mathlib.Omega.{arith}
use lib.ListN.{length, take, drop, length-take, length-drop, replicate, length-replicate}
use Rattle.paper.specs.Bytes.{tab}
use Rattle.quoting.proofs.Putting.{stored_there, part_stored}
use Rattle.quoting.proofs.page.Page.put_tabs.Goals as goal

pub returns-then-has_room : goal.returns-then-has_room
returns-then-has_room c =
    let room = c.has_room.ensures.room c.if-has_room.true in
    let at = c.has_room.new.self.at in
    let out = c.has_room.new.self.out.now in
    let size : length (take (at + c.args.tabs - at) (drop at out)) ≡ c.args.tabs =
    omega (arith, length-take (at + c.args.tabs - at) (drop at out), length-drop at out) in
    let end : at + c.args.tabs ≡ at + length (replicate c.args.tabs tab) = simp length-replicate in
    stored_there c.args.self.now c.has_room.new.self _ (replicate c.args.tabs tab) room.0 refl
    (part_stored out (replicate c.args.tabs tab) _ at _ (c.fill.ensures.after (λ y e. e) ∙ ap (λ (n : ℕ). replicate n tab) size) end
    (simp length-replicate room.1)) end

pub returns-else-has_room : goal.returns-else-has_room
returns-else-has_room c = c.has_room.ensures.full c.if-has_room.false (replicate c.args.tabs tab) (simp length-replicate)
