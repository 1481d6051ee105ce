-- The number that the digits spell is a scalar value in two ranges.
use native.Mathlib.Omega.{arith}
use Rattle.paper.proofs.Scalars.{scalar_low, scalar_high}
use Rattle.leaves.proofs.HexDigits.{scalar_gap, scalar_past, spells}
use Rattle.leaves.proofs.escapes.spells_scalar.Goals as goal

pub returns-in_default : goal.returns-in_default
returns-in_default c = spells _ _ _ c.requires.0 c.hex_value.ensures (scalar_gap _ (omega arith) (omega arith))

pub returns-in_default-2 : goal.returns-in_default-2
returns-in_default-2 c = spells _ _ _ c.requires.0 c.hex_value.ensures (scalar_past _ (omega arith))

pub returns-in-0-to-55295 : goal.returns-in-0-to-55295
returns-in-0-to-55295 c = spells _ _ _ c.requires.0 c.hex_value.ensures (scalar_low _ (omega arith))

pub returns-in-0-to-55295-2 : goal.returns-in-0-to-55295-2
returns-in-0-to-55295-2 c = spells _ _ _ c.requires.0 c.hex_value.ensures (scalar_high _ (omega arith) (omega arith))
