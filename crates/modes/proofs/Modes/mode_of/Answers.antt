-- The number of a name tells its section: those of the first come first, and the table's first byte says how many they are.
use Rattle.modes.proofs.Lookup.{count_inside, mode_absent, mode_children, mode_content}
use Rattle.modes.proofs.Modes.mode_of.Goals as goal

pub bounds-self-0 : goal.bounds-self-0
bounds-self-0 c = count_inside _ _ c.args.self.now.indexed

pub returns-in-None : goal.returns-in-None
returns-in-None c = mode_absent _ _ c.args.self.now.indexed _ c.in-None.ensures

pub returns-in-Some : goal.returns-in-Some
returns-in-Some c = mode_children _ _ c.args.self.now.indexed _ _ c.in-Some.ensures c.if-number-self.true

pub returns-in-Some-2 : goal.returns-in-Some-2
returns-in-Some-2 c = mode_content _ _ c.args.self.now.indexed _ _ c.in-Some.ensures c.if-number-self.false
