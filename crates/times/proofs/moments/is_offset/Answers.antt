-- A sign in front, or "Z". Assumes nothing.
use native.Mathlib.Omega.{arith}
use mathlib.Core.Path.{ap, ◌∙◌}
use Rattle.std.proofs.Common.{rules}
use Rattle.text.proofs.Places.{part_rest}
use Rattle.times.specs.Parts.{is_hour_minute}
use Rattle.times.proofs.Zones.{offset_signed, offset_unsigned}
use Rattle.times.proofs.moments.is_offset.Goals as goal

pub returns-in-43 : goal.returns-in-43
returns-in-43 c =
    c.is_hour_minute.ensures ∙ ap is_hour_minute (part_rest c.args.w.now 1)
    ∙ offset_signed _ (omega arith) (search rules)

pub returns-in_default : goal.returns-in_default
returns-in_default c =
    c.same.ensures ∙ offset_unsigned c.args.w.now (λ h s. search rules)
