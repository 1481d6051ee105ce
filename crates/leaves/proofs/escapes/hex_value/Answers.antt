use mathlib.Core.Path.{◌∙◌}
use native.Mathlib.Omega.{arith}
use Rattle.paper.specs.Bytes.{is_hex}
use Rattle.leaves.proofs.HexDigits.{all_at, value_on, value_out, value_grows}
use Rattle.leaves.proofs.escapes.hex_value.Goals as goal

pub hex_digit-requires : goal.hex_digit-requires
hex_digit-requires c = all_at is_hex _ _ c.requires.0 (omega arith)

pub loop-digit-preserved : goal.loop-digit-preserved
loop-digit-preserved c =
    let g = value_grows _ _ _ c.loop-digit.invariant.0 c.hex_digit.ensures.1 (omega arith) in
    (g.0, rw c.hex_digit.ensures.0 (value_on _ c.loop-digit.digit-index _ (omega arith)) ∙ c.loop-digit.invariant.1)

pub returns : goal.returns
returns c = value_out _ c.loop-digit.digit-index _ (omega arith) ∙ c.loop-digit.invariant.1
