-- The first letter and the last, added up; a name without letters has the key 0.
use mathlib.Core.Path.{refl}
use native.Mathlib.Omega.{arith}
use Rattle.modes.specs.Index.{key_of}
use Rattle.modes.proofs.Numbers.{key_none, key_few}
use Rattle.modes.proofs.index.key.Goals as goal

pub returns-in_default : goal.returns-in_default
returns-in_default c = let none = c.in_default.ensures.item in (key_none _ (omega arith), omega arith)

pub returns : goal.returns
unfolding key_of
returns c =
    let last = c.in-Some.ensures.item.3 in
    rw (last.1 0) (refl, key_few c.args.name.now)
